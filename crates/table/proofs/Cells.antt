-- The numbers in a table's rows, after one is changed, and where there is none, and their sums.
use Rattle.std.proofs.Common.{◌≡◌, ℕ, zero, suc, ◌+◌, ◌<◌, ◌≤◌, min, cond, ◌&&◌, eqb, List, [], length, get_or, set, take, map, replicate, sym, refl, ap, ◌∙◌, ⊎_elim, arith}
use mathlib.Core.Path.{fun_ext}
use Rattle.std.specs.List.{fold, sum_by}
use Rattle.std.proofs.lemmas.List.Folds.{fold-map, fold_along}
use Rattle.std.proofs.lemmas.List.Sums.{sum_by_more}
use Rattle.std.proofs.lemmas.List.{get_or-set_same, get_or-set_other, get_or_past, take_all}
use Rattle.std.proofs.lemmas.Bool.{cases_eq, cases_lt, eq-eqb, ne_eqb}
use Rattle.table.specs.declared.rows.Row.{Row}
use Rattle.table.specs.Rows.{cell, most_number}
use Rattle.book.specs.Ledger.{sum_to, with_held}

abbrev no_row : Row
no_row = record { cells = [] }

-- One row is another, which differs at one asset.
pub cell_set : (rows : List Row) (a s v : ℕ) (row : Row) → a < length rows
    → ((y : ℕ) → get_or row.cells y 0 ≡ cond (eqb y s) v (cell rows a y))
    → cell (set rows a row) ≡ with_held (cell rows) a s v
cell_set rows a s v row l h =
    fun_ext (λ x. fun_ext (λ y.
    ⊎_elim
    (λ (e : x ≡ a).
    ap (λ z. cell (set rows a row) z y) e
    ∙ (ap (λ (r : Row). get_or r.cells y 0) (get_or-set_same rows a row no_row l)
    ∙ (h y
    ∙ (ap (λ z. cond (eqb y s) v (cell rows z y)) (sym e)
    ∙ sym (ap (λ b. cond (b && eqb y s) v (cell rows x y)) (eq-eqb x a e))))))
    (λ (n : x ≡ a → ⊥).
    ap (λ (r : Row). get_or r.cells y 0) (get_or-set_other rows a x row no_row n)
    ∙ sym (ap (λ b. cond (b && eqb y s) v (cell rows x y)) (ne_eqb x a n)))
    (cases_eq x a)))

no_cell : (m s : ℕ) → ◌≡◌ {A = ℕ} (get_or (replicate m 0) s 0) 0
no_cell zero s = refl
no_cell (suc m) zero = refl
no_cell (suc m) (suc s) = no_cell m s

pub cell_none : (n m a s : ℕ) → ◌≡◌ {A = ℕ} (cell (replicate n (record { cells = replicate m 0 })) a s) 0
cell_none zero m a s = refl
cell_none (suc n) m zero s = no_cell m s
cell_none (suc n) m (suc a) s = cell_none n m a s

pub cell_past : (rows : List Row) (a s : ℕ) → length rows ≤ a → cell rows a s ≡ 0
cell_past rows a s l = ap (λ (r : Row). get_or r.cells s 0) (get_or_past rows a no_row l)

abbrev cell_of : ℕ → Row → ℕ
cell_of s r = get_or r.cells s 0

-- The sum of an asset over the first rows, of which there may be fewer.
pub sum_of_rows : (rows : List Row) (s n : ℕ) → sum_by (cell_of s) (take n rows) ≡ sum_to n (λ a. cell rows a s)
sum_of_rows rows s zero = refl
sum_of_rows rows s (suc n) =
    let rest = sum_of_rows rows s n in
    ⊎_elim
    (λ l. let more = sum_by_more (cell_of s) rows n no_row l in
    let one : sum_by (cell_of s) (take (suc n) rows) ≡ sum_by (cell_of s) (take (n + 1) rows)
    = ap (λ k. sum_by (cell_of s) (take k rows)) (let e : suc n ≡ n + 1 = omega arith in e) in
    omega arith)
    (λ l. let none = cell_past rows n s l in
    let same : sum_by (cell_of s) (take (suc n) rows) ≡ sum_by (cell_of s) (take n rows)
    = ap (sum_by (cell_of s)) (take_all (suc n) rows (omega arith) ∙ sym (take_all n rows l)) in
    omega arith)
    (cases_lt n (length rows))

abbrev pub saturating : ℕ → ℕ → ℕ
saturating a b = min (a + b) most_number

-- The same added up so that it stays at the largest number once it is there.
pub saturated_of_rows : (rows : List Row) (s n : ℕ)
    → fold saturating 0 (map (cell_of s) (take n rows)) ≡ min (sum_to n (λ a. cell rows a s)) most_number
saturated_of_rows rows s n =
    let summed = sum_of_rows rows s n in
    let added : fold (λ b r. saturating b (cell_of s r)) 0 (take n rows) ≡ min (sum_by (cell_of s) (take n rows)) most_number
    = fold_along (λ b r. saturating b (cell_of s r)) (λ c r. c + cell_of s r) (λ b c. b ≡ min c most_number) (λ b c r e. omega arith) 0 0 (take n rows) (omega arith) in
    fold-map saturating (cell_of s) 0 (take n rows) ∙ (added ∙ ap (λ k. min k most_number) summed)
