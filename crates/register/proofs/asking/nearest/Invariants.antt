use Rattle.std.proofs.Common.{◌≡◌, take}
use Rattle.register.specs.Nearest.{nearest}
use Rattle.register.proofs.asking.nearest.Given as goal

abbrev pub invariant-loop-line : goal.invariant-loop-line
invariant-loop-line l = l.best ≡ nearest l.number (take l.line-index l.lines)
