-- What stands in a list.
use Rattle.std.proofs.Common.{List, [], ◌∷◌, sym, refl, subst, inl, inr, ⊎_elim, arith}
use Rattle.std.specs.List.{ContainsAt as Has, AllByRecursion}
use Rattle.std.specs.List.Sorted.{IsPermutation}
use Rattle.std.proofs.ByRecursion.{all-has, has_get_or, has_append_right, has_shuffled}
use Rattle.std.proofs.lemmas.List.Sorted.{IsPermutation-sym}
use Rattle.rank.specs.Order.{EachTwo, In, SameMembers}

module _ {X : Type 0} where
  pub all_in : (P : X → Type 0) (xs : List X) (x : X) → AllByRecursion P xs → In x xs → P x
  all_in P [] x a m = absurd m
  all_in P (y ∷ ys) x a m = ⊎_elim (λ e. subst P (sym e) a.0) (all_in P ys x a.1) m

  pub all_of_in : (P : X → Type 0) (xs : List X) → ((x : X) → In x xs → P x) → AllByRecursion P xs
  all_of_in P [] f = tt
  all_of_in P (y ∷ ys) f = (f y (inl refl), all_of_in P ys (λ x m. f x (inr m)))

  -- What follows of each element from two things that hold of it.
  pub all_both : (P Q S : X → Type 0) (xs : List X) → ((x : X) → P x → Q x → S x) → AllByRecursion P xs → AllByRecursion Q xs → AllByRecursion S xs
  all_both P Q S [] f a b = tt
  all_both P Q S (x ∷ xs) f a b = (f x a.0 b.0, all_both P Q S xs f a.1 b.1)

  -- What follows of each two from what holds of each and of the two.
  pub each_two_with : (P : X → Type 0) (R S : X → X → Type 0) (xs : List X) → ((x y : X) → P x → P y → R x y → S x y) → AllByRecursion P xs → EachTwo R xs → EachTwo S xs
  each_two_with P R S [] f a b = tt
  each_two_with P R S (x ∷ xs) f a b = (all_both P (R x) (S x) xs (λ y. f x y a.0) a.1 b.0, each_two_with P R S xs f a.1 b.1)

  in_has : (xs : List X) (x : X) → In x xs → Has xs x
  in_has [] x m = absurd m
  in_has (y ∷ ys) x m =
      ⊎_elim (λ e. subst (Has (y ∷ ys)) (sym e) (has_get_or (y ∷ ys) 0 y (omega arith))) (λ t. has_append_right (y ∷ []) ys x (in_has ys x t)) m

  has_in : (xs : List X) (x : X) → Has xs x → In x xs
  has_in xs x h = all-has (λ z. In z xs) xs x (all_of_in (λ z. In z xs) xs (λ z m. m)) h

  -- A list and the same in another order have the same members.
  pub members_shuffled : (xs ys : List X) → IsPermutation xs ys → SameMembers xs ys
  members_shuffled xs ys s = record {
    there = λ x m. has_in ys x (has_shuffled xs ys x s (in_has xs x m));
    back = λ x m. has_in xs x (has_shuffled ys xs x (IsPermutation-sym xs ys s) (in_has ys x m));
  }
