-- What holds of the book of a session.
use Rattle.std.specs.Prelude.{Option}
use Rattle.std.specs.Option.{ForSome}
use Rattle.book.specs.Ledger.{Sound}
use Rattle.table.specs.declared.Table.{Table}
use Rattle.table.specs.Meaning.{meaning}

-- The book, if there is one, from its making on.
abbrev pub Good : Option Table → Type 0
Good book = ForSome book (λ b. Sound (meaning b))
