use Rattle.register.specs.Fits.{AllSized}
use Rattle.register.proofs.tests.a_full_register.Given as goal

abbrev pub invariant-loop-due : goal.invariant-loop-due
invariant-loop-due g l = AllSized l.register
