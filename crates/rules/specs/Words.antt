-- The words by which the code's names are shown.
use Rattle.std.specs.Prelude.{ℕ, List, codes}
use Rattle.rules.specs.declared.figures.Phase.{Phase}
use Rattle.rules.specs.declared.figures.Phase.TheVariants.{Morning, Late, Shut}

abbrev pub phase_word : Phase → List ℕ
phase_word Morning = codes "morning"
phase_word Late = codes "late"
phase_word Shut = codes "shut"
