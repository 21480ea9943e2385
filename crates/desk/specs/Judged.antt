-- What a house looks at by itself, before it asks its book for a movement.
use Rattle.std.specs.Prelude.{ℕ, ◌+◌, [], ◌∷◌, nat_lt}
use Rattle.book.specs.Refusals.{◌when◌}
use Rattle.rules.specs.declared.fault.HouseFault.TheVariants.{NoMember, NoAsset, BadAmount, Bound, BelowRequirement}
use Rattle.rules.specs.declared.figures.Figures.{Figures}
use Rattle.rules.specs.Faults.{Answer, answer_by}
use Rattle.rules.specs.State.{State, collateral, cash, member}
use Rattle.rules.specs.Events.{no_such_member, no_such_security, no_such_asset, bad_amount, bad_price, is_bound}

abbrev pub bring_judged : Figures → ℕ → ℕ → ℕ → Answer
bring_judged f m t n =
    answer_by (NoMember when no_such_member f m ∷ NoAsset when no_such_asset f t ∷ BadAmount when bad_amount n ∷ [])

abbrev pub take_judged : State → ℕ → ℕ → ℕ → Answer
take_judged s m t n =
    answer_by (
    NoMember when no_such_member s.figures m ∷
    NoAsset when no_such_asset s.figures t ∷
    BadAmount when bad_amount n ∷
    Bound when is_bound s m ∷ [])

abbrev pub endow_judged : ℕ → Answer
endow_judged n = answer_by (BadAmount when bad_amount n ∷ [])

-- Pledge and contribute.
abbrev pub pledge_judged : Figures → ℕ → ℕ → Answer
pledge_judged f m n = answer_by (NoMember when no_such_member f m ∷ BadAmount when bad_amount n ∷ [])

abbrev pub refund_judged : State → ℕ → ℕ → Answer
refund_judged s m n =
    answer_by (
    NoMember when no_such_member s.figures m ∷
    BadAmount when bad_amount n ∷
    BelowRequirement when nat_lt (s.held (collateral m) cash) ((member s.figures m).requirement + n) ∷ [])

abbrev pub price_judged : Figures → ℕ → ℕ → Answer
price_judged f t p = answer_by (NoAsset when no_such_security f t ∷ BadAmount when bad_price p ∷ [])
