-- What a posting does to single balances and to sums, taken or not; and sums of which one term rose or fell.
use Rattle.std.proofs.Common.{◌≡◌, ℕ, ◌+◌, ◌*◌, ◌<◌, ◌≤◌, Bool, true, false, cond, ◌&&◌, eqb, sym, refl, ap, ◌∙◌, ⊎_elim, arith}
use Rattle.std.proofs.lemmas.Bool.{cases_eq, eq-eqb, ne_eqb}
use Rattle.std.proofs.lemmas.Bool.Decides.{nat_tests}
use Rattle.book.specs.Ledger.{Ledger, Balances, sum_to, with_held, most_amount}
use Rattle.book.specs.Movement.{Move, movement_number, after}
use Rattle.book.specs.Posting.{takes_move, posted}
use Rattle.book.proofs.Sums.{sum_same, sum_with, total_with, total_with_other}
use Rattle.book.proofs.Totals.{total_of_move}
use Rattle.rules.specs.State.{escrow}
use Rattle.rules.specs.Run.{Source, own, from_collateral, from_contribution, from_reserve, source_account}

-- A movement of n of the asset t from account a to account c that a book of k accounts, m assets and these balances takes.
pub record Movable (k m : ℕ) (f : Balances) (a c t n : ℕ) : Type 0 where
  pub from : a < k
  pub to : c < k
  pub apart : a ≡ c → ⊥
  pub asset : t < m
  pub enough : n ≤ f a t
  pub small : n ≤ most_amount

takes_movable : (k m : ℕ) (f : Balances) (a c t n : ℕ) → 0 < n → Movable k m f a c t n → takes_move k m f a c t n ≡ true
takes_movable k m f a c t n p w =
    let from = w.from in let to = w.to in let apart = w.apart in let asset = w.asset in let enough = w.enough in let small = w.small in
    grind (arith, nat_tests)

takes_nothing : (k m : ℕ) (f : Balances) (a c t n : ℕ) → n ≡ 0 → takes_move k m f a c t n ≡ false
takes_nothing k m f a c t n e = grind (arith, nat_tests)

-- A book that has space answers such a movement with 0.
pub movable_accepted : (b : Ledger) (a c t n : ℕ) → 0 < b.space → 0 < n → Movable b.accounts b.assets b.held a c t n
    → movement_number b (Move a c t n) ≡ 0
movable_accepted b a c t n room p w =
    let from = w.from in let to = w.to in let apart = w.apart in let asset = w.asset in let enough = w.enough in let small = w.small in
    grind (arith, nat_tests)

-- A posting of nothing alters no balance.
pub posted_nothing : (k m : ℕ) (f : Balances) (a c t n : ℕ) → n ≡ 0 → posted k m f a c t n ≡ f
posted_nothing k m f a c t n e = ap (λ b. cond b (after f (Move a c t n)) f) (takes_nothing k m f a c t n e)

pub cond_zero : (b : Bool) (n : ℕ) → n ≡ 0 → cond b n 0 ≡ 0
cond_zero true n e = e
cond_zero false n e = refl

-- A posting of nothing, or of what the book takes, at any account and asset.
module _ (k m : ℕ) (f : Balances) (a c t n : ℕ) (w : 0 < n → Movable k m f a c t n) where
  moved_at : (x y : ℕ) → (a ≡ c → ⊥) → n ≤ f a t → after f (Move a c t n) x y + cond (eqb x a && eqb y t) n 0 ≡ f x y + cond (eqb x c && eqb y t) n 0
  moved_at x y apart enough = grind (arith, nat_tests)

  pub posted_at : (x y : ℕ) → posted k m f a c t n x y + cond (eqb x a && eqb y t) n 0 ≡ f x y + cond (eqb x c && eqb y t) n 0
  posted_at x y =
      ⊎_elim
      (λ (e : n ≡ 0).
      let u = cond_zero (eqb x a && eqb y t) n e in let v = cond_zero (eqb x c && eqb y t) n e in
      rw (takes_nothing k m f a c t n e) (omega arith))
      (λ (d : n ≡ 0 → ⊥). let o = w (omega arith) in rw (takes_movable k m f a c t n (omega arith) o) (moved_at x y o.apart o.enough))
      (cases_eq n 0)

  pub posted_others : (x : ℕ) → (x ≡ a → ⊥) → (x ≡ c → ⊥) → (y : ℕ) → posted k m f a c t n x y ≡ f x y
  posted_others x p q y =
      let z = posted_at x y in
      let u : cond (eqb x a && eqb y t) n 0 ≡ 0 = ap (λ b. cond (b && eqb y t) n 0) (ne_eqb x a p) in
      let v : cond (eqb x c && eqb y t) n 0 ≡ 0 = ap (λ b. cond (b && eqb y t) n 0) (ne_eqb x c q) in
      omega arith

  pub posted_to : (a ≡ c → ⊥) → (y : ℕ) → posted k m f a c t n c y ≡ f c y + cond (eqb y t) n 0
  posted_to ne y =
      let z = posted_at c y in
      let u : cond (eqb c a && eqb y t) n 0 ≡ 0 = ap (λ b. cond (b && eqb y t) n 0) (ne_eqb c a (λ e. ne (sym e))) in
      let v : cond (eqb c c && eqb y t) n 0 ≡ cond (eqb y t) n 0 = ap (λ b. cond (b && eqb y t) n 0) (eq-eqb c c refl) in
      omega arith

  pub posted_from : (a ≡ c → ⊥) → (y : ℕ) → posted k m f a c t n a y + cond (eqb y t) n 0 ≡ f a y
  posted_from ne y =
      let z = posted_at a y in
      let u : cond (eqb a c && eqb y t) n 0 ≡ 0 = ap (λ b. cond (b && eqb y t) n 0) (ne_eqb a c ne) in
      let v : cond (eqb a a && eqb y t) n 0 ≡ cond (eqb y t) n 0 = ap (λ b. cond (b && eqb y t) n 0) (eq-eqb a a refl) in
      omega arith

  pub posted_total : (y : ℕ) → sum_to k (λ x. posted k m f a c t n x y) ≡ sum_to k (λ x. f x y)
  posted_total y =
      ⊎_elim
      (λ (e : n ≡ 0). ap (λ b. sum_to k (λ x. cond b (after f (Move a c t n)) f x y)) (takes_nothing k m f a c t n e))
      (λ (d : n ≡ 0 → ⊥).
      let o = w (omega arith) in
      ap (λ b. sum_to k (λ x. cond b (after f (Move a c t n)) f x y)) (takes_movable k m f a c t n (omega arith) o)
      ∙ total_of_move k f a c t n o.from o.to o.apart o.enough y)
      (cases_eq n 0)

-- The sum of one asset after one number of a table is another.
pub total_at : (n : ℕ) (f : Balances) (a s v y : ℕ) → a < n → sum_to n (λ x. with_held f a s v x y) + cond (eqb y s) (f a s) 0 ≡ sum_to n (λ x. f x y) + cond (eqb y s) v 0
total_at n f a s v y h =
    ⊎_elim
    (λ (e : y ≡ s).
    let z = total_with n f a s v h in
    let u : cond (eqb y s) (f a s) 0 ≡ f a s = ap (λ b. cond b (f a s) 0) (eq-eqb y s e) in
    let w : cond (eqb y s) v 0 ≡ v = ap (λ b. cond b v 0) (eq-eqb y s e) in
    let b = ap (λ k. sum_to n (λ x. with_held f a s v x k)) e in
    let d = ap (λ k. sum_to n (λ x. f x k)) e in
    omega arith)
    (λ (d : y ≡ s → ⊥).
    let z = total_with_other n f a s v y d in
    let u : cond (eqb y s) (f a s) 0 ≡ 0 = ap (λ b. cond b (f a s) 0) (ne_eqb y s d) in
    let w : cond (eqb y s) v 0 ≡ 0 = ap (λ b. cond b v 0) (ne_eqb y s d) in
    omega arith)
    (cases_eq y s)

-- One term of a sum rose by x.
sum_rose : (n : ℕ) (f g : ℕ → ℕ) (k x : ℕ) → k < n → ((j : ℕ) → g j ≡ f j + cond (eqb k j) x 0) → sum_to n g ≡ sum_to n f + x
sum_rose n f g k x l e =
    let a = sum_same n g (λ j. cond (eqb j k) (f k + x) (f j)) (λ j h. e j ∙ at j) in
    let b = sum_with n f k (f k + x) l in
    omega arith
  where
    at : (j : ℕ) → f j + cond (eqb k j) x 0 ≡ cond (eqb j k) (f k + x) (f j)
    at j =
        ⊎_elim
        (λ (q : j ≡ k). ap (λ b. f j + cond b x 0) (eq-eqb k j (sym q)) ∙ (ap (λ z. f z + x) q ∙ sym (ap (λ b. cond b (f k + x) (f j)) (eq-eqb j k q))))
        (λ (d : j ≡ k → ⊥).
        let u : cond (eqb k j) x 0 ≡ 0 = ap (λ b. cond b x 0) (ne_eqb k j (λ q. d (sym q))) in
        let v : cond (eqb j k) (f k + x) (f j) ≡ f j = ap (λ b. cond b (f k + x) (f j)) (ne_eqb j k d) in omega arith)
        (cases_eq j k)

-- One number of a table rose by x: the sum of its column, and of any other column.
pub sum_rose_at : (n : ℕ) (f g : Balances) (k s x t : ℕ) → k < n → ((j u : ℕ) → g j u ≡ f j u + cond (eqb k j && eqb s u) x 0)
    → sum_to n (λ j. g j t) ≡ sum_to n (λ j. f j t) + cond (eqb t s) x 0
sum_rose_at n f g k s x t l e =
    ⊎_elim
    (λ (q : t ≡ s).
    let c : cond (eqb t s) x 0 ≡ x = ap (λ b. cond b x 0) (eq-eqb t s q) in
    let a = sum_rose n (λ j. f j t) (λ j. g j t) k x l (λ j. e j t ∙ same j q) in
    omega arith)
    (λ (d : t ≡ s → ⊥).
    let c : cond (eqb t s) x 0 ≡ 0 = ap (λ b. cond b x 0) (ne_eqb t s d) in
    let a = sum_same n (λ j. g j t) (λ j. f j t) (λ j h. e j t ∙ other j d) in
    omega arith)
    (cases_eq t s)
  where
    same : (j : ℕ) → t ≡ s → f j t + cond (eqb k j && eqb s t) x 0 ≡ f j t + cond (eqb k j) x 0
    same j q = let z = eq-eqb s t (sym q) in grind (arith, nat_tests)

    other : (j : ℕ) → (t ≡ s → ⊥) → f j t + cond (eqb k j && eqb s t) x 0 ≡ f j t
    other j d = let z = ne_eqb s t (λ e. d (sym e)) in grind (arith, nat_tests)

-- A member pays from an account of the house that is neither the pool nor escrow.
pub source_known : (n m : ℕ) (from : Source) → m ≤ n → source_account m from < 3 * n + 3
source_known n m own l = omega arith
source_known n m from_collateral l = omega arith
source_known n m from_contribution l = omega arith
source_known n m from_reserve l = omega arith

pub source_above : (m : ℕ) (from : Source) → 0 < m → escrow < source_account m from
source_above m own l = omega arith
source_above m from_collateral l = omega arith
source_above m from_contribution l = omega arith
source_above m from_reserve l = omega arith
