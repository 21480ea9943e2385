-- The movements of a book: when each is refused, and what it leaves.
use Rattle.std.specs.Prelude.{◌≡◌, ℕ, ◌+◌, ◌-◌, ◌≤◌, Bool, cond, not, ◌||◌, List, [], ◌∷◌, ◌==◌, nat_le, nat_lt}
use Rattle.book.specs.Ledger.{Ledger, Balances, total, with_held, most_amount}
use Rattle.book.specs.Refusals.{Refusal, ◌when◌}
use Rattle.book.specs.Faults.{number_of, from_one_to}
use Rattle.book.specs.declared.fault.BookFault.{BookFault}
use Rattle.book.specs.declared.fault.BookFault.TheVariants.{NoAccount, NoAsset, BadAmount, NoSpace, TooLittle, TooMuch}

-- Put adds an amount from outside to an account, Pull removes one to outside, Move goes from one account to another.
-- The arguments are the account or accounts, the asset and the amount.
pub data Movement : Type 0 where
  Put : ℕ → ℕ → ℕ → Movement
  Pull : ℕ → ℕ → ℕ → Movement
  Move : ℕ → ℕ → ℕ → ℕ → Movement

abbrev pub no_account : Ledger → ℕ → Bool
no_account b a = nat_le b.accounts a

abbrev pub no_asset : Ledger → ℕ → Bool
no_asset b s = nat_le b.assets s

-- An amount is from 1 to 10^15.
abbrev pub good_amount : ℕ → Bool
good_amount n = from_one_to most_amount n

abbrev pub full : Ledger → Bool
full b = b.space == 0

-- The refusals of a movement, in their order.
abbrev pub refusals : Ledger → Movement → List (Refusal BookFault)
refusals b (Put a s n) =
    NoAccount when no_account b a ∷
    NoAsset when no_asset b s ∷
    BadAmount when not (good_amount n) ∷
    NoSpace when full b ∷
    TooMuch when nat_lt most_amount (total b s + n) ∷ []
refusals b (Pull a s n) =
    NoAccount when no_account b a ∷
    NoAsset when no_asset b s ∷
    BadAmount when not (good_amount n) ∷
    NoSpace when full b ∷
    TooLittle when nat_lt (b.held a s) n ∷ []
refusals b (Move a c s n) =
    NoAccount when (no_account b a || (no_account b c || a == c)) ∷
    NoAsset when no_asset b s ∷
    BadAmount when not (good_amount n) ∷
    NoSpace when full b ∷
    TooLittle when nat_lt (b.held a s) n ∷ []

-- The number of the answer to a movement: 0, or that of the first refusal that applies.
abbrev pub movement_number : Ledger → Movement → ℕ
movement_number b m = number_of (refusals b m)

-- The number of the answer to a question for a balance.
abbrev pub balance_number : Ledger → ℕ → ℕ → ℕ
balance_number b a s =
    number_of (
    NoAccount when no_account b a ∷
    NoAsset when no_asset b s ∷ [])

-- The balances after an accepted movement.
abbrev pub after : Balances → Movement → Balances
after f (Put a s n) = with_held f a s (f a s + n)
after f (Pull a s n) = with_held f a s (f a s - n)
after f (Move a c s n) = with_held (with_held f a s (f a s - n)) c s (f c s + n)

-- How a call that asks a book b for the movement m answers the number w and leaves the book t.
-- A refused call leaves all as it was. An accepted one leaves the space unchanged or one lower.
pub record Carried (m : Movement) (b : Ledger) (w : ℕ) (t : Ledger) : Type 0 where
  pub answer : w ≡ movement_number b m
  pub accounts : t.accounts ≡ b.accounts
  pub assets : t.assets ≡ b.assets
  pub held : t.held ≡ cond (w == 0) (after b.held m) b.held
  pub no_more_space : t.space ≤ b.space
  pub most_one_less : b.space ≤ t.space + cond (w == 0) 1 0

-- How a movement m whose answer nobody hears leaves the book t of a book b: where it is refused, all is as it was.
abbrev pub Shifted : Movement → Ledger → Ledger → Type 0
Shifted m b t = Carried m b (movement_number b m) t
