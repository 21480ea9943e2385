-- The entries that are still to come. Assumes nothing.
use Rattle.std.specs.Prelude.{ℕ, List}
use Rattle.feed.specs.declared.entries.Entries.{Entries}
use Rattle.feed.specs.declared.entry.Item.{Item}
use Rattle.feed.specs.Format.{Told, entries_from}
use Rattle.feed.specs.Shown.{told}

abbrev pub coming : Entries → List (ℕ × Told)
coming e = entries_from e.reader.bytes.now e.reader.place

-- an entry with its place
abbrev pub placed : Item → ℕ × Told
placed x = (x.place, told x.entry)
