use Rattle.std.proofs.Common.{arith}
use Rattle.house.proofs.Emptiness.{not_empty, still_empty}
use Rattle.house.proofs.opening.is_bare.Goals as goal

pub returns-then-holds-gt0 : goal.returns-then-holds-gt0
returns-then-holds-gt0 g c good =
    let b = g.B.Book.ledger c.args.book.now in
    not_empty b.assets (b.held c.args.account) c.loop-asset.asset (omega arith) (omega (arith, c.holds.ensures good))

pub loop-asset-preserved : goal.loop-asset-preserved
loop-asset-preserved g c good =
    let b = g.B.Book.ledger c.args.book.now in
    still_empty c.loop-asset.asset (b.held c.args.account) (c.loop-asset.invariant good) (omega (arith, c.holds.ensures good))
