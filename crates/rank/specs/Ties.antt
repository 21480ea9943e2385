-- Orders made of numbers, the next deciding where the one before is equal.
use Rattle.std.specs.Prelude.{◌≡◌, ℕ, Bool, true, false, not, ◌≢◌, nat_lt}
use Rattle.std.proofs.Common.{arith}
use Rattle.std.proofs.lemmas.Bool.Decides.{nat_tests}
use Rattle.rank.specs.Ranks.{smaller_first}

pub below_never : (x : ℕ) → nat_lt x x ≡ false
below_never x = grind (arith, nat_tests)

pub below_one : (x y : ℕ) → (x ≢ y) → nat_lt y x ≡ not (nat_lt x y)
below_one x y n = grind (arith, nat_tests)

pub below_chain : (x y z : ℕ) → nat_lt x y ≡ true → nat_lt y z ≡ true → nat_lt x z ≡ true
below_chain x y z a b = grind (arith, nat_tests)

pub first_never : (x : ℕ) (p : Bool) → p ≡ false → smaller_first x x p ≡ false
first_never x p e = grind (arith, nat_tests)

pub first_one : (x y : ℕ) (p q : Bool) → (x ≡ y → q ≡ not p) → smaller_first y x q ≡ not (smaller_first x y p)
first_one x y p q k = grind (arith, nat_tests)

pub first_chain : (x y z : ℕ) (p q r : Bool) → (x ≡ y → y ≡ z → p ≡ true → q ≡ true → r ≡ true) → smaller_first x y p ≡ true → smaller_first y z q ≡ true → smaller_first x z r ≡ true
first_chain x y z p q r k a b = grind (arith, nat_tests)
