use Rattle.register.proofs.Shapes.{shaped_none}
use Rattle.register.proofs.Register.empty.Goals as goal

pub invariant_of-result : goal.invariant_of-result
invariant_of-result c = search (shaped_none)
