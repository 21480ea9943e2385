use Rattle.std.proofs.Common.{sym, subst, take, arith}
use Rattle.std.proofs.lemmas.Grind.{common_steps}
use Rattle.std.proofs.lemmas.List.{length-take-le}
use Rattle.register.specs.Fits.{Shaped}
use Rattle.register.proofs.Shapes.{shaped_of}
use Rattle.register.proofs.Register.cut.Goals as goal

pub invariant_of-self : goal.invariant_of-self
invariant_of-self c =
    let places = c.self.invariant.table.places in
    let few = length-take-le c.args.count c.self.inside.lines (omega arith) in
    subst Shaped (sym (grind (arith, common_steps))) (shaped_of (take c.args.count c.self.inside.lines) (omega arith))
