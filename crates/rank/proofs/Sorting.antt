-- Insertion into a list in order, and that there is one such list.
use Rattle.std.proofs.Common.{◌≡◌, Bool, true, false, cond, not, List, [], ◌∷◌, sym, refl, ap, ◌∙◌, subst, inl, inr, ⊎_elim, arith}
use Rattle.std.specs.List.{AllByRecursion}
use Rattle.std.specs.List.Sorted.{IsPermutation}
use Rattle.std.proofs.ByRecursion.{All-weaker}
use Rattle.std.proofs.lemmas.List.Sorted.{IsPermutation-refl, IsPermutation-trans, IsPermutation-cons, IsPermutation-swap}
use Rattle.std.proofs.lemmas.Bool.{both_ways, cases_Bool}
use Rattle.rank.specs.Order.{EachTwo, InOrder, insert, In, SameMembers}
use Rattle.rank.proofs.Members.{all_in, all_both, each_two_with}

module _ {X : Type 0} (goes : X → X → Bool) where
  pub all_insert : (P : X → Type 0) (x : X) (xs : List X) → P x → AllByRecursion P xs → AllByRecursion P (insert goes x xs)
  all_insert P x [] p a = (p, tt)
  all_insert P x (y ∷ ys) p a =
      elim (goes x y) as (λ t. AllByRecursion P (cond t (x ∷ y ∷ ys) (y ∷ insert goes x ys))) [ true ↦ (p, a) | false ↦ (a.0, all_insert P x ys p a.1) ]

  pub insert_shuffled : (x : X) (xs : List X) → IsPermutation (x ∷ xs) (insert goes x xs)
  insert_shuffled x [] = IsPermutation-refl (x ∷ [])
  insert_shuffled x (y ∷ ys) =
      elim (goes x y) as (λ t. IsPermutation (x ∷ y ∷ ys) (cond t (x ∷ y ∷ ys) (y ∷ insert goes x ys))) [
        | true ↦ IsPermutation-refl (x ∷ y ∷ ys)
        | false ↦ IsPermutation-trans (x ∷ y ∷ ys) (y ∷ x ∷ ys) (y ∷ insert goes x ys)
            (IsPermutation-swap (x ∷ y ∷ ys) (y ∷ x ∷ ys) 0 1 (omega arith) (omega arith) refl)
            (IsPermutation-cons y (x ∷ ys) (insert goes x ys) (insert_shuffled x ys))
      ]

  -- R holds of each two after an insertion if the test tells it of x and each, and it goes on from what x goes before.
  pub each_two_insert : (R : X → X → Type 0) (x : X) (xs : List X) →
      AllByRecursion (λ y. (goes x y ≡ true → R x y) × (goes x y ≡ false → R y x)) xs → EachTwo (λ y z. goes x y ≡ true → R y z → R x z) xs →
      EachTwo R xs → EachTwo R (insert goes x xs)
  each_two_insert R x [] told on r = (tt, tt)
  each_two_insert R x (y ∷ ys) told on r = go (goes x y) refl (each_two_insert R x ys told.1 on.1 r.1)
    where
      go : (t : Bool) → goes x y ≡ t → EachTwo R (insert goes x ys) → EachTwo R (cond t (x ∷ y ∷ ys) (y ∷ insert goes x ys))
      go true e ih = ((told.0.0 e, all_both (λ z. goes x y ≡ true → R y z → R x z) (R y) (R x) ys (λ z f h. f e h) on.0 r.0), r)
      go false e ih = (all_insert (R y) x ys (told.0.1 e) r.0, ih)

-- No element stands behind one that it goes before: what is left of an order where two elements may have one key.
abbrev pub InTurn : {X : Type 0} → (X → X → Bool) → List X → Type 0
InTurn goes xs = EachTwo (λ x y. goes y x ≡ false) xs

-- An order on the elements of which P holds.
pub record Strict {X : Type 0} (P : X → Type 0) (goes : X → X → Bool) : Type 0 where
  pub never : (x : X) → P x → goes x x ≡ false
  pub chain : (x y z : X) → P x → P y → P z → goes x y ≡ true → goes y z ≡ true → goes x z ≡ true

module _ {X : Type 0} (P : X → Type 0) (goes : X → X → Bool) (law : Strict P goes) where
  pub one_way : (x y : X) → P x → P y → goes x y ≡ true → goes y x ≡ false
  one_way x y p q e =
      ⊎_elim (λ t. absurd (both_ways (goes x x) (law.never x p) (law.chain x y x p q p e t))) (λ f. f) (cases_Bool (goes y x))

  pub in_turn : (xs : List X) → AllByRecursion P xs → InOrder goes xs → InTurn goes xs
  in_turn xs a o = each_two_with P (λ x y. goes x y ≡ true) (λ x y. goes y x ≡ false) xs one_way a o

  -- x and each element of the list go one before the other.
  pub insert_in_order : (x : X) (xs : List X) → P x → AllByRecursion P xs → AllByRecursion (λ y. goes y x ≡ not (goes x y)) xs → InOrder goes xs → InOrder goes (insert goes x xs)
  insert_in_order x xs p a one o =
      each_two_insert goes (λ y z. goes y z ≡ true) x xs
      (All-weaker (λ y. goes y x ≡ not (goes x y)) (λ y. (goes x y ≡ true → goes x y ≡ true) × (goes x y ≡ false → goes y x ≡ true)) (λ y e. (λ t. t, λ f. e ∙ ap not f)) xs one)
      (each_two_with P (λ y z. goes y z ≡ true) (λ y z. goes x y ≡ true → goes y z ≡ true → goes x z ≡ true) xs (λ y z q r _. law.chain x y z p q r) a o) o

  pub insert_in_turn : (x : X) (xs : List X) → P x → AllByRecursion P xs → InTurn goes xs → InTurn goes (insert goes x xs)
  insert_in_turn x xs p a o =
      each_two_insert goes (λ y z. goes z y ≡ false) x xs
      (All-weaker P (λ y. (goes x y ≡ true → goes y x ≡ false) × (goes x y ≡ false → goes x y ≡ false)) (λ y q. (one_way x y p q, λ f. f)) xs a)
      (each_two_with P (λ y z. goes z y ≡ false) (λ y z. goes x y ≡ true → goes z y ≡ false → goes z x ≡ false) xs (λ y z q r _. behind y z q r) a o) o
    where
      behind : (y z : X) → P y → P z → goes x y ≡ true → goes z y ≡ false → goes z x ≡ false
      behind y z q r e f =
          ⊎_elim (λ t. absurd (both_ways (goes z y) f (law.chain z x y r p q t e))) (λ g. g) (cases_Bool (goes z x))

  module _ (x y : X) (xs ys : List X) (p : P x) (q : P y) (a : AllByRecursion (λ z. goes x z ≡ true) xs) (b : AllByRecursion (λ z. goes y z ≡ true) ys)
      (m : SameMembers (x ∷ xs) (y ∷ ys)) where
    -- Lists in order with the same members begin alike.
    same_first : x ≡ y
    same_first = ⊎_elim (λ e. e) (λ later. ⊎_elim sym (λ behind. absurd (clash later behind)) (m.back y (inl refl))) (m.there x (inl refl))
      where
        clash : In x ys → In y xs → ⊥
        clash later behind =
            both_ways (goes x y) (one_way y x q p (all_in (λ z. goes y z ≡ true) ys x b later)) (all_in (λ z. goes x z ≡ true) xs y a behind)

    -- And what follows has the same members: neither list holds its first again.
    same_rest : SameMembers xs ys
    same_rest = record {
      there = λ z n. ⊎_elim (λ e. absurd (once x xs p a (subst (λ (w : X). In w xs) (e ∙ sym same_first) n))) (λ t. t) (m.there z (inr n));
      back = λ z n. ⊎_elim (λ e. absurd (once y ys q b (subst (λ (w : X). In w ys) (e ∙ same_first) n))) (λ t. t) (m.back z (inr n));
    }
      where
        once : (w : X) (ws : List X) → P w → AllByRecursion (λ z. goes w z ≡ true) ws → In w ws → ⊥
        once w ws r c n = both_ways (goes w w) (law.never w r) (all_in (λ z. goes w z ≡ true) ws w c n)

  pub order_unique : (xs ys : List X) → AllByRecursion P xs → SameMembers xs ys → InOrder goes xs → InOrder goes ys → xs ≡ ys
  order_unique [] [] a m o q = refl
  order_unique [] (y ∷ ys) a m o q = absurd (m.back y (inl refl))
  order_unique (x ∷ xs) [] a m o q = absurd (m.there x (inl refl))
  order_unique (x ∷ xs) (y ∷ ys) a m o q =
      let b = all_in P (x ∷ xs) y a (m.back y (inl refl)) in
      let e = same_first x y xs ys a.0 b o.0 q.0 m in
      let f = order_unique xs ys a.1 (same_rest x y xs ys a.0 b o.0 q.0 m) o.1 q.1 in
      λ i. e i ∷ f i
