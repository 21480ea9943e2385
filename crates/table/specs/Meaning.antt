-- What a table means.
use Rattle.std.specs.Prelude.{◌≡◌, ℕ, ◌<◌, not, [], ◌∷◌}
use Rattle.book.specs.Ledger.{Ledger, Sound}
use Rattle.book.specs.Refusals.{◌when◌}
use Rattle.book.specs.Faults.{number_of}
use Rattle.book.specs.declared.fault.BookFault.TheVariants.{NoAccount, NoAsset, BadAmount}
use Rattle.book.specs.Movement.{Movement, no_account, no_asset, good_amount, movement_number, Carried}
use Rattle.table.specs.declared.Table.{Table}
use Rattle.table.specs.declared.grid.Grid.{Grid}
use Rattle.table.specs.declared.rows.Place.{Place}
use Rattle.table.specs.Rows.{ledger}

abbrev pub meaning : Table → Ledger
meaning t = ledger t.accounts t.assets t.rows

-- What the counts and the rows of a table mean, sound or not.
abbrev pub grid_meaning : Grid → Ledger
grid_meaning g = ledger g.accounts g.assets g.rows

-- The number of the first refusal that looks at the account, the asset or the amount alone; 0 where none applies.
abbrev pub judged_number : Ledger → ℕ → ℕ → ℕ → ℕ
judged_number b a s n =
    number_of (
    NoAccount when no_account b a ∷
    NoAsset when no_asset b s ∷
    BadAmount when not (good_amount n) ∷ [])

-- The place of account a and asset s in a table that means b.
pub record IsPlaceOf (b : Ledger) (a s : ℕ) (place : Place) : Type 0 where
  pub account : place.account ≡ a
  pub asset : place.asset ≡ s
  pub some_account : a < b.accounts
  pub some_asset : s < b.assets

-- How an accepted movement m leaves the table t of the table b.
pub record Kept (m : Movement) (b t : Table) : Type 0 where
  pub carried : Sound (meaning b) → movement_number (meaning b) m ≡ 0 → Carried m (meaning b) 0 (meaning t)
  pub stays : Sound (meaning b) → movement_number (meaning b) m ≡ 0 → Sound (meaning t)

-- The same of ledgers, which may be those of no table.
pub record KeptBy (m : Movement) (b t : Ledger) : Type 0 where
  pub carried : Sound b → movement_number b m ≡ 0 → Carried m b 0 t
  pub stays : Sound b → movement_number b m ≡ 0 → Sound t
