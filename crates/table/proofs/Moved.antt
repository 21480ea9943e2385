-- A table of other rows is the book after an accepted movement, and what a table's balances are when one is changed.
use Rattle.std.proofs.Common.{◌≡◌, ℕ, ◌+◌, ◌<◌, ◌≤◌, cond, ◌&&◌, eqb, List, sym, refl, ap, ◌∙◌, subst, ⊎_elim, arith}
use Rattle.std.proofs.lemmas.Bool.{cases_eq, ne_eqb}
use Rattle.book.specs.Ledger.{Balances, Ledger, Sound, sum_to, total, with_held, most_accounts, most_assets, most_amount}
use Rattle.book.specs.Movement.{Movement, movement_number, after, Carried}
use Rattle.book.proofs.Sums.{sum_zero, term_within_sum, total_with, total_with_other, outside_accounts, outside_assets}
use Rattle.book.proofs.Totals.{carried_sound}
use Rattle.table.specs.declared.Table.{Table}
use Rattle.table.specs.declared.rows.Row.{Row}
use Rattle.table.specs.Rows.{ledger, cell}
use Rattle.table.specs.Meaning.{meaning, Kept, KeptBy}

pub kept_by : (m : Movement) (b t : Ledger) → t.accounts ≡ b.accounts → t.assets ≡ b.assets → t.space ≡ b.space
    → (Sound b → movement_number b m ≡ 0 → t.held ≡ after b.held m) → KeptBy m b t
kept_by m b t ea es ep eh =
    let c : Sound b → movement_number b m ≡ 0 → Carried m b 0 t
    = λ h ok. record { answer = sym ok; accounts = ea; assets = es; held = eh h ok; no_more_space = omega arith; most_one_less = omega arith } in
    record { carried = c; stays = λ h ok. carried_sound m b t 0 h (c h ok) }

pub kept : (m : Movement) (b t : Table) → t.accounts ≡ b.accounts → t.assets ≡ b.assets
    → (Sound (meaning b) → movement_number (meaning b) m ≡ 0 → (meaning t).held ≡ after (meaning b).held m) → Kept m b t
kept m b t ea es eh = let k = kept_by m (meaning b) (meaning t) ea es refl eh in record { carried = k.carried; stays = k.stays }

-- In what follows n accounts and k assets are counted.
pub empty_sound : (n k : ℕ) (rows : List Row) → 0 < n → n ≤ most_accounts → 0 < k → k ≤ most_assets → ((a s : ℕ) → cell rows a s ≡ 0) → Sound (ledger n k rows)
empty_sound n k rows some few any fit none =
    record {
      some_account = some;
      few_accounts = few;
      some_asset = any;
      few_assets = fit;
      space_within = omega arith;
      total_within = λ s. let z = sum_zero n _ (λ a. none a s) in omega arith;
      no_account = λ a s l. none a s;
      no_asset = λ a s l. none a s;
    }

-- The sums of the assets where the balance for account a and asset s is v.
total_within_of : (n k : ℕ) (rows : List Row) (a s v : ℕ) → Sound (ledger n k rows) → a < n
    → total (ledger n k rows) s + v ≤ most_amount + cell rows a s
    → (y : ℕ) → sum_to n (λ x. with_held (cell rows) a s v x y) ≤ most_amount
total_within_of n k rows a s v sound l room y =
    ⊎_elim
    (λ (e : y ≡ s).
    let one = total_with n (cell rows) a s v l in
    let at : sum_to n (λ x. with_held (cell rows) a s v x s) ≤ most_amount = omega arith in
    subst (λ (z : ℕ). sum_to n (λ x. with_held (cell rows) a s v x z) ≤ most_amount) (sym e) at)
    (λ d. let e = total_with_other n (cell rows) a s v y d in let w = sound.total_within y in omega arith)
    (cases_eq y s)

-- A table stays sound where a balance is changed and its asset's sum keeps within the limit.
pub changed_sound : (n k : ℕ) (rows moved : List Row) (a s v : ℕ) → Sound (ledger n k rows) → cell moved ≡ with_held (cell rows) a s v
    → a < n → s < k → total (ledger n k rows) s + v ≤ most_amount + cell rows a s → Sound (ledger n k moved)
changed_sound n k rows moved a s v sound is la ls room =
    record {
      some_account = sound.some_account;
      few_accounts = sound.few_accounts;
      some_asset = sound.some_asset;
      few_assets = sound.few_assets;
      space_within = omega arith;
      total_within = λ y. subst (λ (f : Balances). sum_to n (λ x. f x y) ≤ most_amount) (sym is) (total_within_of n k rows a s v sound la room y);
      no_account = λ x y l. ap (λ (f : Balances). f x y) is ∙ outside_accounts n (cell rows) a s v la sound.no_account x y l;
      no_asset = λ x y l. ap (λ (f : Balances). f x y) is ∙ outside_assets k (cell rows) a s v ls sound.no_asset x y l;
    }

-- No balance passes the limit.
pub balance_within : (n k : ℕ) (rows : List Row) (a s : ℕ) → Sound (ledger n k rows) → a < n → cell rows a s ≤ most_amount
balance_within n k rows a s sound l =
    let within = sound.total_within s in
    let term = term_within_sum n (λ x. cell rows x s) a l in
    omega arith

-- Where a balance is lowered, its asset's sum has room for as much.
pub room_after : (n k : ℕ) (rows moved : List Row) (a s v m : ℕ) → Sound (ledger n k rows) → cell moved ≡ with_held (cell rows) a s v
    → a < n → v + m ≡ cell rows a s → total (ledger n k moved) s + m ≤ most_amount
room_after n k rows moved a s v m sound is l lower =
    let one = total_with n (cell rows) a s v l in
    let within = sound.total_within s in
    let at : sum_to n (λ x. cell moved x s) ≡ sum_to n (λ x. with_held (cell rows) a s v x s)
    = ap (λ (f : Balances). sum_to n (λ x. f x s)) is in
    omega arith

pub other_balance : (f : Balances) (a s v x y : ℕ) → (x ≡ a → ⊥) → with_held f a s v x y ≡ f x y
other_balance f a s v x y other = ap (λ b. cond (b && eqb y s) v (f x y)) (ne_eqb x a other)
