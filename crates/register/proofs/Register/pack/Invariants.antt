use Rattle.register.specs.Dropping.{Packed}
use Rattle.register.proofs.Register.pack.Given as goal

abbrev pub invariant-loop-place : goal.invariant-loop-place
invariant-loop-place l = Packed l.day l.initial.self l.self l.place l.filled
