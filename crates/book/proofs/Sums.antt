-- Sums over the first numbers, and sums of balances of which one is changed.
use Rattle.std.proofs.Common.{◌≡◌, ℕ, zero, suc, ◌+◌, ◌<◌, ◌≤◌, false, cond, ◌&&◌, eqb, sym, refl, ap, ◌∙◌, ⊎_elim, arith}
use Rattle.std.proofs.lemmas.Bool.{cases_eq, eq-eqb, ne_eqb}
use Rattle.std.proofs.lemmas.Bool.Decides.{nat_tests}
use Rattle.book.specs.Ledger.{Balances, sum_to, with_held}

pub sum_same : (n : ℕ) (f g : ℕ → ℕ) → ((k : ℕ) → k < n → f k ≡ g k) → sum_to n f ≡ sum_to n g
sum_same zero f g h = refl
sum_same (suc n) f g h = let e = sum_same n f g (λ k l. h k (omega arith)) in let d = h n (omega arith) in cc

pub term_within_sum : (n : ℕ) (f : ℕ → ℕ) (a : ℕ) → a < n → f a ≤ sum_to n f
term_within_sum zero f a h = omega arith
term_within_sum (suc n) f a h =
    ⊎_elim (λ e. let d : f a ≡ f n = ap f e in omega arith) (λ ne. let i = term_within_sum n f a (omega arith) in omega arith) (cases_eq a n)

pub sum_more : (n : ℕ) (f : ℕ → ℕ) → sum_to (n + 1) f ≡ sum_to n f + f n
sum_more n f = ap (λ k. sum_to k f) (let e : n + 1 ≡ suc n = omega arith in e)

pub sum_zero : (n : ℕ) (f : ℕ → ℕ) → ((k : ℕ) → f k ≡ 0) → sum_to n f ≡ 0
sum_zero zero f h = refl
sum_zero (suc n) f h = let i = sum_zero n f h in let d = h n in omega arith

-- One term of a sum is another.
pub sum_with : (n : ℕ) (f : ℕ → ℕ) (a v : ℕ) → a < n → sum_to n (λ x. cond (eqb x a) v (f x)) + f a ≡ sum_to n f + v
sum_with zero f a v h = omega arith
sum_with (suc n) f a v h =
    ⊎_elim
    (λ e. let d : f a ≡ f n = ap f e in
    let t : cond (eqb n a) v (f n) ≡ v = ap (λ b. cond b v (f n)) (eq-eqb n a (sym e)) in
    let s : sum_to n (λ x. cond (eqb x a) v (f x)) ≡ sum_to n f
    = sum_same n (λ x. cond (eqb x a) v (f x)) f (λ k l. ap (λ b. cond b v (f k)) (ne_eqb k a (λ q. omega arith))) in
    omega arith)
    (λ ne. let t : cond (eqb n a) v (f n) ≡ f n = ap (λ b. cond b v (f n)) (ne_eqb n a (λ q. ne (sym q))) in
    let i = sum_with n f a v (omega arith) in omega arith)
    (cases_eq a n)

-- One balance is another: the sum of its asset, and of any other asset.
pub total_with : (n : ℕ) (f : Balances) (a s v : ℕ) → a < n → sum_to n (λ x. with_held f a s v x s) + f a s ≡ sum_to n (λ x. f x s) + v
total_with n f a s v h =
    let e : sum_to n (λ x. with_held f a s v x s) ≡ sum_to n (λ x. cond (eqb x a) v (f x s))
    = sum_same n (λ x. with_held f a s v x s) (λ x. cond (eqb x a) v (f x s)) (λ k l. grind (arith, nat_tests)) in
    let d = sum_with n (λ x. f x s) a v h in omega arith

pub total_with_other : (n : ℕ) (f : Balances) (a s v y : ℕ) → (y ≡ s → ⊥) → sum_to n (λ x. with_held f a s v x y) ≡ sum_to n (λ x. f x y)
total_with_other n f a s v y h = sum_same n (λ x. with_held f a s v x y) (λ x. f x y) (λ k l. grind (arith, nat_tests))

-- What is 0 outside of the accounts, or of the assets, stays so where a balance inside is changed.
pub outside_accounts : (n : ℕ) (f : Balances) (a s v : ℕ) → a < n → ((x y : ℕ) → n ≤ x → f x y ≡ 0) → (x y : ℕ) → n ≤ x → with_held f a s v x y ≡ 0
outside_accounts n f a s v l h x y d = ap (λ b. cond (b && eqb y s) v (f x y)) (ne_eqb x a (λ q. omega arith)) ∙ h x y d

pub outside_assets : (m : ℕ) (f : Balances) (a s v : ℕ) → s < m → ((x y : ℕ) → m ≤ y → f x y ≡ 0) → (x y : ℕ) → m ≤ y → with_held f a s v x y ≡ 0
outside_assets m f a s v l h x y d =
    let z = h x y d in
    let n : eqb y s ≡ false = ne_eqb y s (λ q. omega arith) in
    grind (arith, nat_tests)
