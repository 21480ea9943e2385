use Rattle.register.proofs.Shapes.{place_left, shaped_found, shaped_left}
use Rattle.register.proofs.Register.file.Goals as goal

pub invariant_of-self : goal.invariant_of-self
invariant_of-self c = search (shaped_found)

pub bounds-self-inside-self-inside : goal.bounds-self-inside-self-inside
bounds-self-inside-self-inside c = search (place_left)

pub invariant_of-self-in-None : goal.invariant_of-self-in-None
invariant_of-self-in-None c = search (shaped_left)
