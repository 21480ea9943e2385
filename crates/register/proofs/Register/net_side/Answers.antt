use Rattle.register.proofs.Shapes.{shaped_found}
use Rattle.register.proofs.Register.net_side.Goals as goal

pub invariant_of-self : goal.invariant_of-self
invariant_of-self c = search (shaped_found)
