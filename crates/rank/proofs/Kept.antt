-- The first of some lines, found by keeping the better of two.
use Rattle.std.proofs.Common.{◌≡◌, ℕ, ◌<◌, Bool, true, false, cond, List, [], ◌∷◌, length, get_or, map, fold, Bor, sym, refl, ap, subst, ◌⊎◌, inl, inr, ⊎_elim, arith}
use Rattle.std.specs.Prelude.{Option, Some, None, MatchOption, IfSome, IsSomeAnd}
use Rattle.std.specs.Option.{option_map}
use Rattle.std.specs.List.{AllByRecursion}
use Rattle.std.proofs.lemmas.List.{get_or-map, length-map}
use Rattle.std.proofs.lemmas.List.Elements.{All-from_recursion, recursion_from_All}
use Rattle.std.proofs.lemmas.Bool.{both_ways, cases_Bool}
use Rattle.rank.specs.declared.claim.Claim.{Claim}
use Rattle.rank.specs.Laws.{Peers, Rivals, Lawful}
use Rattle.rank.specs.Order.{no_claim, at, Together, First, Found}
use Rattle.rank.proofs.Sorting.{Strict}
use Rattle.rank.proofs.Lines.{lawful_strict}

-- v is what is compared of an element.
module _ {X Y : Type 0} (v : X → Y) (goes : Y → Y → Bool) where
  abbrev pub better : X → X → X
  better best next = cond (goes (v next) (v best)) next best

  -- What holds of each element holds of the one that is kept.
  pub kept : (Q : X → Type 0) (x : X) (xs : List X) → Q x → AllByRecursion Q xs → Q (fold better x xs)
  kept Q x [] q a = q
  kept Q x (w ∷ ws) q a =
      kept Q (better x w) ws (elim (goes (v w) (v x)) as (λ t. Q (cond t w x)) [ true ↦ a.0 | false ↦ q ]) a.1

  module _ (P : Y → Type 0) (law : Strict P goes) where
    -- The one that is kept, y, is the first element or goes before it, and none of the others goes before y.
    pub record Keeps (x : X) (xs : List X) (y : X) : Type 0 where
      pub fits : P (v y)
      pub from : (v y ≡ v x) ⊎ (goes (v y) (v x) ≡ true)
      pub none : AllByRecursion (λ z. goes (v z) (v y) ≡ false) xs

    -- What goes not before x goes not before y.
    behind : (x z y : X) → P (v x) → P (v z) → P (v y) → (v y ≡ v x) ⊎ (goes (v y) (v x) ≡ true) → goes (v z) (v x) ≡ false → goes (v z) (v y) ≡ false
    behind x z y p q r from e =
        ⊎_elim (λ s. subst (λ (w : Y). goes (v z) w ≡ false) (sym s) e)
        (λ t. ⊎_elim (λ u. absurd (both_ways (goes (v z) (v x)) e (law.chain (v z) (v y) (v x) q r p u t))) (λ f. f) (cases_Bool (goes (v z) (v y))))
        from

    pub keeps : (x : X) (xs : List X) → P (v x) → AllByRecursion (λ z. P (v z)) xs → Keeps x xs (fold better x xs)
    keeps x [] p a = record { fits = p; from = inl refl; none = tt }
    keeps x (w ∷ ws) p a = go (goes (v w) (v x)) refl (keeps w ws a.0 a.1) (keeps x ws p a.1)
      where
        go : (t : Bool) → goes (v w) (v x) ≡ t → Keeps w ws (fold better w ws) → Keeps x ws (fold better x ws) → Keeps x (w ∷ ws) (fold better (cond t w x) ws)
        go true e k _ =
            let y = fold better w ws in
            record {
              fits = k.fits;
              from = inr (⊎_elim (λ s. subst (λ (u : Y). goes u (v x) ≡ true) (sym s) e) (λ t. law.chain (v y) (v w) (v x) k.fits a.0 p t e) k.from);
              none = (behind w w y a.0 a.0 k.fits k.from (law.never (v w) a.0), k.none);
            }
        go false e _ k =
            record { fits = k.fits; from = k.from; none = (behind x w (fold better x ws) p a.0 k.fits k.from e, k.none) }

    pub keeps_first : (x : X) (xs : List X) → P (v x) → AllByRecursion (λ z. P (v z)) xs → AllByRecursion (λ z. goes (v z) (v (fold better x xs)) ≡ false) (x ∷ xs)
    keeps_first x xs p a =
        let k = keeps x xs p a in
        (behind x x (fold better x xs) p p k.fits k.from (law.never (v x) p), k.none)

-- A line with its place.
abbrev pub line_of : ℕ × Bor Claim → Claim
line_of x = x.1.now

pub first_kept : (goes : Claim → Claim → Bool) → Lawful goes → (x : ℕ × Bor Claim) (xs : List (ℕ × Bor Claim)) →
    ((k : ℕ) (d : ℕ × Bor Claim) → k < length (x ∷ xs) → (get_or (x ∷ xs) k d).0 ≡ k) → First goes (map line_of (x ∷ xs)) (fold (better line_of goes) x xs).0
first_kept goes law x xs numbered = record { within = placed.0; none_before = none; before_rivals = λ t j l r. rivals j r (none t j l) }
  where
    items : List (ℕ × Bor Claim)
    items = x ∷ xs

    lines : List Claim
    lines = map line_of items

    y : ℕ × Bor Claim
    y = fold (better line_of goes) x xs

    stands : (k : ℕ) (d : ℕ × Bor Claim) → k < length items → at lines k ≡ line_of (get_or items k d)
    stands k d l = get_or-map line_of items k d no_claim l

    Placed : ℕ × Bor Claim → Type 0
    Placed z = (z.0 < length lines) × (at lines z.0 ≡ line_of z)

    placed : Placed y
    placed =
        let each = recursion_from_All Placed items (λ k d l. rw (numbered k d l) (rw length-map l, stands k d l)) in
        kept line_of goes Placed x xs each.0 each.1

    none : Together lines → (j : ℕ) → j < length lines → goes (at lines j) (at lines y.0) ≡ false
    none t j l =
        let peers = recursion_from_All (λ z. Peers (line_of x) (line_of z)) items (λ k d m.
        subst (λ (c : Claim). Peers (line_of x) c) (stands k d m) (t 0 k (omega arith) (rw length-map m))) in
        let each = keeps_first line_of goes (Peers (line_of x)) (lawful_strict goes law (line_of x)) x xs peers.0 peers.1 in
        let m : j < length items = rw length-map at l in
        cc (stands j x m, placed.1, All-from_recursion (λ z. goes (line_of z) (line_of y) ≡ false) items each j x m)

    rivals : (j : ℕ) → Rivals (at lines y.0) (at lines j) → goes (at lines j) (at lines y.0) ≡ false → goes (at lines y.0) (at lines j) ≡ true
    rivals j r e = grind (arith, law.one (at lines y.0) (at lines j) r)

-- What came of keeping the better of each two, and the place that is read of it.
module _ (goes : Claim → Claim → Bool) (law : Lawful goes) (items : List (ℕ × Bor Claim)) (numbered : (k : ℕ) (d : ℕ × Bor Claim) → k < length items → (get_or items k d).0 ≡ k) where
  pub found_kept : (best : Option (ℕ × Bor Claim)) (r : Option ℕ) →
      MatchOption best (length items ≡ 0) (λ y. (x : ℕ × Bor Claim) × (xs : List (ℕ × Bor Claim)) × (items ≡ x ∷ xs) × (y ≡ fold (better line_of goes) x xs)) →
      MatchOption best (r ≡ None) (λ y. r ≡ Some y.0) → Found goes (map line_of items) r
  found_kept None r b m = subst (Found goes (map line_of items)) (sym m) (rw length-map b)
  found_kept (Some y) r b m =
      let first = first_kept goes law b.0 b.1 (subst (λ (l : List (ℕ × Bor Claim)). (k : ℕ) (d : ℕ × Bor Claim) → k < length l → (get_or l k d).0 ≡ k) b.2 numbered) in
      subst (Found goes (map line_of items)) (sym m)
      (subst (λ (z : (ℕ × Bor Claim) × List (ℕ × Bor Claim)). First goes (map line_of z.1) z.0.0) {x = (fold (better line_of goes) b.0 b.1, b.0 ∷ b.1)} {y = (y, items)} (λ i. (sym b.3 i, sym b.2 i)) first)

-- What holds of an item, if there is one, holds of the one that there is.
pub item_has : {X : Type 0} (Q : X → Type 0) (o : Option X) (x : X) → option_map (λ (y : X). y) o ≡ Some x → IfSome o Q → Q x
item_has Q None x e q = cc
item_has Q (Some y) x e q = let s : y ≡ x = cc in subst Q s q

pub match_with : {X : Type 0} (o : Option X) (P S : Type 0) (Q T : X → Type 0) → (P → S) → ((x : X) → Q x → T x) → MatchOption o P Q → MatchOption o S T
match_with None P S Q T f h m = f m
match_with (Some x) P S Q T f h m = h x m

pub some_of : {X : Type 0} (o : Option X) (Q : X → Type 0) (x : X) → ((y : X) → Q y → y ≡ x) → IsSomeAnd o Q → o ≡ Some x
some_of None Q x h m = absurd m
some_of (Some y) Q x h m = ap Some (h y m)
