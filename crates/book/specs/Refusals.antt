-- Refusals, listed in the order in which they are looked at.
use Rattle.std.specs.Prelude.{Bool, cond, List, [], ◌∷◌}

infix 70 ◌when◌
-- A refusal, and the test under which it applies.
pub record Refusal (F : Type 0) : Type 0 where
  pub fault : F
  pub applies : Bool

abbrev pub ◌when◌ : {F : Type 0} → F → Bool → Refusal F
fault when applies = record { fault = fault; applies = applies }

-- The name of the first refusal that applies, as `name` gives it; `none` where no refusal does.
abbrev pub first : {F A : Type 0} → (F → A) → A → List (Refusal F) → A
first name none [] = none
first name none (r ∷ rs) = cond r.applies (name r.fault) (first name none rs)
