-- What every list of movements does to the sums of a book's assets.
use Rattle.std.specs.Prelude.{◌≡◌, ℕ, ◌+◌, ◌≤◌, cond, List, [], ◌∷◌, ◌==◌}
use Rattle.book.specs.Ledger.{Ledger, Sound, total}
use Rattle.book.specs.Movement.{Movement, Put, Pull, Move, Carried}

-- A movement that was asked for, and the number that was answered.
pub record Asked : Type 0 where
  pub movement : Movement
  pub answer : ℕ

-- What the movement puts in of the asset s from outside, and what it takes out.
abbrev pub put_in : Movement → ℕ → ℕ
put_in (Put a y n) s = cond (s == y) n 0
put_in (Pull a y n) s = 0
put_in (Move a c y n) s = 0

abbrev pub taken_out : Movement → ℕ → ℕ
taken_out (Put a y n) s = 0
taken_out (Pull a y n) s = cond (s == y) n 0
taken_out (Move a c y n) s = 0

-- The same of all accepted movements of a list.
abbrev pub all_accepted : (Movement → ℕ → ℕ) → List Asked → ℕ → ℕ
all_accepted of [] s = 0
all_accepted of (x ∷ xs) s = cond (x.answer == 0) (of x.movement s) 0 + all_accepted of xs s

-- A book that was b is t after the movements of a list, each carried out in its turn.
abbrev pub Ran : List Asked → Ledger → Ledger → Type 0
Ran [] b t = b ≡ t
Ran (x ∷ xs) b t = (c : Ledger) × (Carried x.movement b x.answer c × Ran xs c t)

-- An accepted put raises the total of its asset by its amount, an accepted pull lowers it, and nothing else changes a total.
abbrev pub TotalsFollow : Type 0
TotalsFollow =
    (xs : List Asked) (b t : Ledger) → Sound b → Ran xs b t →
    (s : ℕ) → total t s + all_accepted taken_out xs s ≡ total b s + all_accepted put_in xs s

-- No total passes the limit, after any list of movements.
abbrev pub TotalsWithin : ℕ → Type 0
TotalsWithin limit = (xs : List Asked) (b t : Ledger) → Sound b → Ran xs b t → (s : ℕ) → total t s ≤ limit
