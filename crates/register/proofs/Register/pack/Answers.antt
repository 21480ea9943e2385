use Rattle.std.proofs.Common.{arith, subst}
use Rattle.register.specs.Fits.{Tabled}
use Rattle.register.proofs.Packing.{packed_none, packed_more}
use Rattle.register.proofs.Register.pack.Goals as goal

pub loop-place-init : goal.loop-place-init
loop-place-init c = packed_none c.args.day c.args.self.now (subst Tabled c.self.view_is c.self.invariant.table)

pub loop-place-preserved : goal.loop-place-preserved
loop-place-preserved c =
    packed_more c.args.day c.args.self.now c.loop-place.self c.loop-place.place c.loop-place.filled c.loop-place.invariant (omega arith)
    _ _ c.keep-filled.ensures.count c.keep-filled.ensures.lines
