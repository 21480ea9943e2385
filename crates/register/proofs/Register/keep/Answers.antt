use Rattle.register.proofs.Shapes.{shaped_moved}
use Rattle.register.proofs.Register.keep.Goals as goal

pub invariant_of-self : goal.invariant_of-self
invariant_of-self c = shaped_moved _ c.args.filled c.args.place c.self.invariant c.requires.filled c.requires.place
