-- A call that looks at one thing.
use Rattle.std.specs.Prelude.{◌≡◌, Bool, true, false, Ok, Err, Result}
use Rattle.rules.specs.declared.fault.HouseFault.{HouseFault}

-- It is refused by x exactly if b.
abbrev pub RefusedIf : {X : Type 0} → HouseFault → Bool → Result X HouseFault → Type 0
RefusedIf x b (Ok v) = b ≡ false
RefusedIf x b (Err e) = (e ≡ x) × (b ≡ true)
