-- What a house answers when it is asked for a figure. A question alters nothing.
use Rattle.std.specs.Prelude.{ℕ, [], ◌∷◌}
use Rattle.book.specs.Refusals.{◌when◌}
use Rattle.rules.specs.declared.fault.HouseFault.TheVariants.{NoMember, NoAsset, NoFlag}
use Rattle.rules.specs.declared.figures.Figures.{Figures}
use Rattle.rules.specs.Faults.{Answer, answer_by}
use Rattle.register.specs.Asking.{free_in}
use Rattle.rules.specs.Events.{no_such_member, no_such_security, no_such_flag}

-- A question about a member, a security, or a line by due day, security, member and flag.
abbrev pub member_answer : Figures → ℕ → Answer
member_answer f m = answer_by (NoMember when no_such_member f m ∷ [])

abbrev pub security_answer : Figures → ℕ → Answer
security_answer f t = answer_by (NoAsset when no_such_security f t ∷ [])

abbrev pub line_answer : Figures → ℕ → ℕ → ℕ → Answer
line_answer f t m flag =
    answer_by (
    NoMember when no_such_member f m ∷
    NoAsset when no_such_security f t ∷
    NoFlag when no_such_flag flag ∷ [])

-- The places of the register that are free.
abbrev pub free_places : Figures → ℕ
free_places f = free_in f.register
