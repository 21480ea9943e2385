use Rattle.std.proofs.Common.{◌≡◌, string_bytes}
use Rattle.settle.specs.Statements.{line_to}
use Rattle.settle.proofs.statement.account_line.Given as goal

abbrev pub invariant-loop-asset : goal.invariant-loop-asset
invariant-loop-asset g l = g.B.Book.good l.book → string_bytes l.text ≡ line_to (g.B.Book.ledger l.book) l.account l.asset
