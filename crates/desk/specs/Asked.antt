-- How a house answers a question. A question alters nothing.
use Rattle.std.specs.Prelude.{◌≡◌, ℕ, [], ◌∷◌, Some, None, Ok, Err, Option, Result}
use Rattle.book.specs.Refusals.{◌when◌}
use Rattle.rules.specs.declared.fault.HouseFault.{HouseFault}
use Rattle.rules.specs.declared.fault.HouseFault.TheVariants.{NoMember, NoAsset}
use Rattle.rules.specs.declared.figures.Figures.{Figures}
use Rattle.rules.specs.Faults.{Answer, answer_by, answer_of, refusal}
use Rattle.rules.specs.Events.{no_such_member, no_such_security, no_such_asset}

-- A house that was refused at its opening answers by that refusal.
abbrev pub unless_refused : Option HouseFault → Answer → Answer
unless_refused None w = w
unless_refused (Some x) w = refusal x

-- Where it is answered, the answer is x.
abbrev pub is_told : {X : Type 0} → Result X HouseFault → X → Type 0
is_told (Ok y) x = y ≡ x
is_told (Err f) x = Unit {0}

-- A question that should be answered as `wanted`, and then tell x.
pub record Tells {X : Type 0} (o : Option HouseFault) (wanted : Answer) (x : X) (r : Result X HouseFault) : Type 0 where
  pub answer : answer_of r ≡ unless_refused o wanted
  pub value : is_told r x

-- Questions about an asset, and about a member's asset or security.
abbrev pub asset_answer : Figures → ℕ → Answer
asset_answer f t = answer_by (NoAsset when no_such_asset f t ∷ [])

abbrev pub member_asset_answer : Figures → ℕ → ℕ → Answer
member_asset_answer f m t = answer_by (NoMember when no_such_member f m ∷ NoAsset when no_such_asset f t ∷ [])

abbrev pub member_security_answer : Figures → ℕ → ℕ → Answer
member_security_answer f m t = answer_by (NoMember when no_such_member f m ∷ NoAsset when no_such_security f t ∷ [])
