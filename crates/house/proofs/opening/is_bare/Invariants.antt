use Rattle.std.proofs.Common.{◌≡◌}
use Rattle.book.specs.Ledger.{sum_to}
use Rattle.house.proofs.opening.is_bare.Given as goal

abbrev pub invariant-loop-asset : goal.invariant-loop-asset
invariant-loop-asset g l = g.B.Book.good l.book → sum_to l.asset ((g.B.Book.ledger l.book).held l.account) ≡ 0
