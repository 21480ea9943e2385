-- What a book means: its counts, its space, and a whole number for each account and asset.
use Rattle.std.specs.Prelude.{◌≡◌, ℕ, zero, suc, ◌+◌, ◌<◌, ◌≤◌, cond, ◌&&◌, ◌==◌}

abbrev pub most_accounts : ℕ
most_accounts = 75

abbrev pub most_assets : ℕ
most_assets = 17

-- The largest amount of one movement, and the largest sum of an asset over all accounts.
abbrev pub most_amount : ℕ
most_amount = 1000000000000000

-- No book will take more movements than this.
abbrev pub most_space : ℕ
most_space = 4294967295

abbrev pub Balances : Type 0
Balances = ℕ → ℕ → ℕ

-- Accounts and assets are numbered from 0. The space is the number of movements that the book will still take.
pub record Ledger : Type 0 where
  pub accounts : ℕ
  pub assets : ℕ
  pub space : ℕ
  pub held : Balances

-- f 0 + .. + f (n - 1)
abbrev pub sum_to : ℕ → (ℕ → ℕ) → ℕ
sum_to zero f = 0
sum_to (suc n) f = sum_to n f + f n

-- The sum of an asset over all accounts.
abbrev pub total : Ledger → ℕ → ℕ
total b s = sum_to b.accounts (λ a. b.held a s)

-- The balances with the amount n for account a and asset s.
abbrev pub with_held : Balances → ℕ → ℕ → ℕ → Balances
with_held f a s n = λ x y. cond (x == a && y == s) n (f x y)

-- What is true of every book.
pub record Sound (b : Ledger) : Type 0 where
  pub some_account : 0 < b.accounts
  pub few_accounts : b.accounts ≤ most_accounts
  pub some_asset : 0 < b.assets
  pub few_assets : b.assets ≤ most_assets
  pub space_within : b.space ≤ most_space
  pub total_within : (s : ℕ) → total b s ≤ most_amount
  pub no_account : (a s : ℕ) → b.accounts ≤ a → b.held a s ≡ 0
  pub no_asset : (a s : ℕ) → b.assets ≤ s → b.held a s ≡ 0

-- A book of n accounts and m assets that starts empty.
pub record Empty (n m : ℕ) (b : Ledger) : Type 0 where
  pub accounts : b.accounts ≡ n
  pub assets : b.assets ≡ m
  pub held : (a s : ℕ) → b.held a s ≡ 0

-- How a question that should answer the number `wanted` (0, or the refusal's) answers the number w: `Value` says what it tells.
pub record Told (w wanted : ℕ) (Value : Type 0) : Type 0 where
  pub answer : w ≡ wanted
  pub value : Value
