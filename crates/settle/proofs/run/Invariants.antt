use Rattle.std.proofs.Common.{◌≡◌, length}
use Rattle.settle.proofs.run.Given as goal

abbrev pub invariant_loop : goal.invariant_loop
invariant_loop l = length l.chunk ≡ 65536
