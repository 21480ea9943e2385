-- Lists in rank order, and the first of some lines.
use Rattle.std.specs.Prelude.{◌≡◌, ℕ, ◌<◌, Bool, true, false, cond, ◌⊎◌, List, [], ◌∷◌, length, pos, Some, None, Option, slice_index_or}
use Rattle.std.specs.List.{AllByRecursion}
use Rattle.std.specs.List.Sorted.{IsPermutation}
use Rattle.rank.specs.declared.key.Flag.TheVariants.{LocalPrincipal}
use Rattle.rank.specs.declared.claim.Claim.{Claim}
use Rattle.rank.specs.Laws.{Peers, Rivals, Lawful}

-- R holds of each earlier element and each later one.
abbrev pub EachTwo : {X : Type 0} → (X → X → Type 0) → List X → Type 0
EachTwo R [] = Unit {0}
EachTwo R (x ∷ xs) = AllByRecursion (R x) xs × EachTwo R xs

-- Each earlier element goes before each later one.
abbrev pub InOrder : {X : Type 0} → (X → X → Bool) → List X → Type 0
InOrder goes xs = EachTwo (λ x y. goes x y ≡ true) xs

-- x put in before the first element that it goes before, else at the end.
abbrev pub insert : {X : Type 0} → (X → X → Bool) → X → List X → List X
insert goes x [] = x ∷ []
insert goes x (y ∷ ys) = cond (goes x y) (x ∷ y ∷ ys) (y ∷ insert goes x ys)

abbrev pub In : {X : Type 0} → X → List X → Type 0
In x [] = ⊥
In x (y ∷ ys) = (x ≡ y) ⊎ In x ys

pub record SameMembers {X : Type 0} (xs ys : List X) : Type 0 where
  pub there : (x : X) → In x xs → In x ys
  pub back : (x : X) → In x ys → In x xs

-- A line put into a list in rank order, among its rivals, leaves it in rank order and adds just that line.
abbrev pub InsertionKeepsOrder : Type 0
InsertionKeepsOrder =
    (goes : Claim → Claim → Bool) → Lawful goes → (x : Claim) (xs : List Claim) → AllByRecursion (Rivals x) xs → InOrder goes xs →
    InOrder goes (insert goes x xs) × IsPermutation (x ∷ xs) (insert goes x xs)

-- Peers have one list in rank order.
abbrev pub OrderIsUnique : Type 0
OrderIsUnique =
    (goes : Claim → Claim → Bool) → Lawful goes → (a : Claim) (xs ys : List Claim) → AllByRecursion (Peers a) xs → SameMembers xs ys →
    InOrder goes xs → InOrder goes ys → xs ≡ ys

-- What stands past the end of a list.
abbrev pub no_claim : Claim
no_claim = record { key = record { due = 0; security = 0; member = 0; flag = LocalPrincipal }; quantity = pos 0; price = 0 }

-- The line at a place.
abbrev pub at : List Claim → ℕ → Claim
at xs k = slice_index_or xs k no_claim

-- All lines are peers.
abbrev pub Together : List Claim → Type 0
Together xs = (j k : ℕ) → j < length xs → k < length xs → Peers (at xs j) (at xs k)

-- The place of the first of some lines: of peers, none goes before the line there, and it goes before each rival.
pub record First (goes : Claim → Claim → Bool) (xs : List Claim) (k : ℕ) : Type 0 where
  pub within : k < length xs
  pub none_before : Together xs → (j : ℕ) → j < length xs → goes (at xs j) (at xs k) ≡ false
  pub before_rivals : Together xs → (j : ℕ) → j < length xs → Rivals (at xs k) (at xs j) → goes (at xs k) (at xs j) ≡ true

abbrev pub Found : (Claim → Claim → Bool) → List Claim → Option ℕ → Type 0
Found goes xs None = length xs ≡ 0
Found goes xs (Some k) = First goes xs k
