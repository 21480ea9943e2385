use Rattle.std.proofs.Common.{arith}
use Rattle.book.specs.Ledger.{sum_to}
use Rattle.house.proofs.Emptiness.{not_empty, still_empty, some_held, none_held}
use Rattle.house.proofs.opening.is_empty.Goals as goal

pub returns-then-not-is_bare : goal.returns-then-not-is_bare
returns-then-not-is_bare g c good =
    let b = g.B.Book.ledger c.args.book.now in
    not_empty b.accounts (λ a. sum_to b.assets (b.held a)) c.loop-account.account (omega arith) (some_held _ (c.if-not-is_bare.ensures good))

pub loop-account-preserved : goal.loop-account-preserved
loop-account-preserved g c good =
    let b = g.B.Book.ledger c.args.book.now in
    still_empty c.loop-account.account (λ a. sum_to b.assets (b.held a)) (c.loop-account.invariant good) (none_held _ (c.if-not-is_bare.ensures good))
