use Rattle.std.proofs.Common.{◌≡◌}
use Rattle.book.specs.Ledger.{sum_to}
use Rattle.house.proofs.opening.is_empty.Given as goal

abbrev pub invariant-loop-account : goal.invariant-loop-account
invariant-loop-account g l =
    g.B.Book.good l.book →
    sum_to l.account (λ a. sum_to (g.B.Book.ledger l.book).assets ((g.B.Book.ledger l.book).held a)) ≡ 0
