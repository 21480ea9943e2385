-- The order of lines in a run: which lines the list holds, and that none stands behind one that it goes before.
use Rattle.std.proofs.Common.{◌≡◌, ℕ, zero, suc, ◌<◌, ◌≤◌, Bool, true, false, cond, ◌&&◌, eqb, leb, ◌⊎◌, List, [], ◌∷◌, sym, refl, ◌∙◌, subst, inl, inr, ⊎_elim, arith}
use Rattle.std.specs.List.{AllByRecursion}
use Rattle.std.proofs.ByRecursion.{All-weaker}
use Rattle.std.proofs.lemmas.Bool.{both_ways, cases_eq, eqb-true, and_parts, and_from, cond-true}
use Rattle.std.proofs.lemmas.Bool.Decides.{nat_tests}
use Rattle.rank.specs.declared.claim.Claim.{Claim}
use Rattle.rank.specs.Claims.{side, is_receiving, is_delivering}
use Rattle.rank.specs.Laws.{Lawful}
use Rattle.rank.specs.Order.{EachTwo, In, insert}
use Rattle.rank.proofs.Members.{all_in, members_shuffled}
use Rattle.rank.proofs.Sorting.{Strict, InTurn, insert_shuffled, insert_in_turn}
use Rattle.register.specs.declared.line.Line.{Line}
use Rattle.register.specs.declared.Register.{Register}
use Rattle.rules.specs.declared.figures.Figures.{Figures}
use Rattle.rules.specs.State.{State, today}
use Rattle.register.specs.Lines.{line, receives, in_group}
use Rattle.rules.specs.Run.{Before, first_by, goes_before, ordered, in_run, receiving}
use Rattle.rules.specs.Life.{ahead}
use Rattle.rules.proofs.Acts.{all_ordered}
use Rattle.rules.proofs.Invariants.{SoundLines}

-- The order of a run, by the places of lines.
abbrev pub place_goes : Before → Register → ℕ → ℕ → Bool
place_goes rank g i j = goes_before rank (line g i) (line g j)

-- Each place whose line passes the test is in the list.
pub in_ordered : (rank : Before) (g : Register) (p : Line → Bool) (n j : ℕ) → j < n → p (line g j) ≡ true → In j (ordered rank g p n)
in_ordered rank g p zero j h e = absurd (omega arith)
in_ordered rank g p (suc n) j h e = go (λ ne. in_ordered rank g p n j (omega arith) e) (p (line g n)) refl
  where
    go : ((j ≡ n → ⊥) → In j (ordered rank g p n)) → (t : Bool) → p (line g n) ≡ t
        → In j (cond t (insert (place_goes rank g) n (ordered rank g p n)) (ordered rank g p n))
    go older true q =
        (members_shuffled (n ∷ ordered rank g p n) (insert (place_goes rank g) n (ordered rank g p n))
        (insert_shuffled (place_goes rank g) n (ordered rank g p n))).there j (⊎_elim (λ x. inl x) (λ ne. inr (older ne)) (cases_eq j n))
    go older false q = older (λ x. both_ways (p (line g n)) q (subst (λ (k : ℕ). p (line g k) ≡ true) x e))

pub in_run_holds : (rank : Before) (f : Figures) (p : Line → Bool) (j : ℕ) → j < f.register.count → p (line f.register j) ≡ true → In j (in_run rank f p)
in_run_holds rank f p j h e = in_ordered rank f.register p f.register.count j h e

first_never : (x : ℕ) (p : Bool) → p ≡ false → first_by x x p ≡ false
first_never x p e = grind (arith, nat_tests)

first_chain : (x y z : ℕ) (p q r : Bool) → (x ≡ y → y ≡ z → p ≡ true → q ≡ true → r ≡ true) → first_by x y p ≡ true → first_by y z q ≡ true → first_by x z r ≡ true
first_chain x y z p q r k a b = grind (arith, nat_tests)

first_equal : (x y : ℕ) (p : Bool) → x ≡ y → p ≡ true → first_by x y p ≡ true
first_equal x y p e k = grind (arith, nat_tests)

-- The line k goes ahead of the line l in its group.
pub record GoesAhead (rank : Before) (l k : Line) : Type 0 where
  pub receives_too : receives k ≡ true
  pub one_day : k.claim.key.due ≡ l.claim.key.due
  pub one_security : k.claim.key.security ≡ l.claim.key.security
  pub ranked : rank l.price k.claim l.claim ≡ true

pub goes_ahead : (rank : Before) (s : State) (j i : ℕ) → ahead rank s j i ≡ true → GoesAhead rank (line s.figures.register i) (line s.figures.register j)
goes_ahead rank s j i e =
    let l = line s.figures.register i in
    let k = line s.figures.register j in
    let side_rest = and_parts (receives k) (in_group l.claim.key.due l.claim.key.security k && rank l.price k.claim l.claim) e in
    let group_rank = and_parts (in_group l.claim.key.due l.claim.key.security k) (rank l.price k.claim l.claim) side_rest.1 in
    let day_security = and_parts (eqb k.claim.key.due l.claim.key.due) (eqb k.claim.key.security l.claim.key.security) group_rank.0 in
    record {
      receives_too = side_rest.0;
      one_day = eqb-true _ _ day_security.0;
      one_security = eqb-true _ _ day_security.1;
      ranked = group_rank.1;
    }

receiving_side : (c : Claim) → is_receiving c ≡ true → side c ≡ 1
receiving_side c e = cond-true (is_receiving c) 1 (cond (is_delivering c) 0 2) e

-- j stands before i in the list.
abbrev pub StandsBefore : ℕ → ℕ → List ℕ → Type 0
StandsBefore j i [] = ⊥
StandsBefore j i (k ∷ ks) = ((j ≡ k) × In i ks) ⊎ StandsBefore j i ks

either_before : (i j : ℕ) (ks : List ℕ) → In i ks → In j ks → (j ≡ i → ⊥) → StandsBefore j i ks ⊎ StandsBefore i j ks
either_before i j [] a b n = absurd a
either_before i j (k ∷ ks) a b n =
    ⊎_elim
    (λ (e : i ≡ k). ⊎_elim (λ (d : j ≡ k). absurd (n (d ∙ sym e))) (λ (t : In j ks). inr (inl (e, t))) b)
    (λ (t : In i ks).
    ⊎_elim (λ (d : j ≡ k). inl (inl (d, t))) (λ (u : In j ks). ⊎_elim (λ x. inl (inr x)) (λ y. inr (inr y)) (either_before i j ks t u n)) b)
    a

each_two_at : (R : ℕ → ℕ → Type 0) (i j : ℕ) (ks : List ℕ) → EachTwo R ks → StandsBefore i j ks → R i j
each_two_at R i j [] r b = absurd b
each_two_at R i j (k ∷ ks) r b =
    ⊎_elim (λ p. subst (λ (z : ℕ). R z j) (sym p.0) (all_in (R k) ks j r.0 p.1)) (λ t. each_two_at R i j ks r.1 t) b

module _ (rank : Before) (law : (p : ℕ) → Lawful (rank p)) (f : Figures) (sound : SoundLines f) where
  abbrev at : ℕ → Line
  at i = line f.register i

  goes_chain : (i j k : ℕ) → i < f.register.count → j < f.register.count
      → place_goes rank f.register i j ≡ true → place_goes rank f.register j k ≡ true → place_goes rank f.register i k ≡ true
  goes_chain i j k hi hj =
      first_chain (side (at i).claim) (side (at j).claim) (side (at k).claim) _ _ _ (λ e₁ f₁.
      first_chain (at i).claim.key.due (at j).claim.key.due (at k).claim.key.due _ _ _ (λ e₂ f₂.
      first_chain (at i).claim.key.security (at j).claim.key.security (at k).claim.key.security _ _ _ (λ e₃ f₃ x y.
      (law (at i).price).chain (at i).claim (at j).claim (at k).claim
      (record { one_side = e₁; one_day = e₂; one_security = e₃ }) (record { one_side = f₁; one_day = f₂; one_security = f₃ }) x
      (subst (λ (p : ℕ). rank p (at j).claim (at k).claim ≡ true) (sym (sound.one_price i j hi hj e₂ e₃)) y))))

  pub places_strict : Strict (λ i. i < f.register.count) (place_goes rank f.register)
  places_strict = record {
    never = λ i h.
        first_never (side (at i).claim) _ (first_never (at i).claim.key.due _ (first_never (at i).claim.key.security _ ((law (at i).price).never (at i).claim)));
    chain = λ i j k hi hj hk. goes_chain i j k hi hj;
  }

  in_turn_ordered : (p : Line → Bool) (n : ℕ) → n ≤ f.register.count → InTurn (place_goes rank f.register) (ordered rank f.register p n)
  in_turn_ordered p zero h = tt
  in_turn_ordered p (suc n) h =
      let less = in_turn_ordered p n (omega arith) in
      let known : AllByRecursion (λ i. i < f.register.count) (ordered rank f.register p n)
      = All-weaker (λ i. (i < n) × (p (at i) ≡ true)) (λ i. i < f.register.count) (λ i o. let a = o.0 in omega arith) (ordered rank f.register p n)
      (all_ordered rank f.register p n) in
      elim (p (at n)) as (λ t. InTurn (place_goes rank f.register) (cond t (insert (place_goes rank f.register) n (ordered rank f.register p n)) (ordered rank f.register p n))) [
        | true ↦ insert_in_turn (λ i. i < f.register.count) (place_goes rank f.register) places_strict n (ordered rank f.register p n) (omega arith) known less
        | false ↦ less
      ]

  -- No line of the list goes before one that stands before it.
  pub in_run_turn : (p : Line → Bool) → InTurn (place_goes rank f.register) (in_run rank f p)
  in_run_turn p = in_turn_ordered p f.register.count (omega arith)

  -- What goes ahead of a receiving line goes before it in the order of the run.
  pub ahead_goes : (i j : ℕ) → i < f.register.count → j < f.register.count → receives (at i) ≡ true → GoesAhead rank (at i) (at j)
      → place_goes rank f.register j i ≡ true
  ahead_goes i j hi hj r a =
      first_equal (side (at j).claim) (side (at i).claim) _ (receiving_side (at j).claim a.receives_too ∙ sym (receiving_side (at i).claim r))
      (first_equal (at j).claim.key.due (at i).claim.key.due _ a.one_day
      (first_equal (at j).claim.key.security (at i).claim.key.security _ a.one_security
      (subst (λ (p : ℕ). rank p (at j).claim (at i).claim ≡ true) (sound.one_price i j hi hj (sym a.one_day) (sym a.one_security)) a.ranked)))

  pub never_ahead : (i : ℕ) → GoesAhead rank (at i) (at i) → ⊥
  never_ahead i a = both_ways (rank (at i).price (at i).claim (at i).claim) ((law (at i).price).never (at i).claim) a.ranked

-- Of two lines of one group that are due and receive, the one that goes ahead stands before the other.
pub ahead_stands_before : (rank : Before) → ((p : ℕ) → Lawful (rank p)) → (s : State) → SoundLines s.figures
    → (j i : ℕ) → j < s.figures.register.count → i < s.figures.register.count → receiving s.figures (line s.figures.register i) ≡ true
    → ahead rank s j i ≡ true → StandsBefore j i (in_run rank s.figures (receiving s.figures))
ahead_stands_before rank law s sound j i hj hi r a =
    let f = s.figures in
    let l = line f.register i in
    let k = line f.register j in
    let first = goes_ahead rank s j i a in
    let due = and_parts (receives l) (leb l.claim.key.due (today f)) r in
    let too : receiving f k ≡ true = and_from (receives k) (leb k.claim.key.due (today f)) first.receives_too
    (subst (λ (d : ℕ). leb d (today f) ≡ true) (sym first.one_day) due.1) in
    ⊎_elim (λ b. b)
    (λ b. absurd (both_ways (place_goes rank f.register j i)
    (each_two_at (λ x y. place_goes rank f.register y x ≡ false) i j (in_run rank f (receiving f)) (in_run_turn rank law f sound (receiving f)) b)
    (ahead_goes rank law f sound i j hi hj due.0 first)))
    (either_before i j (in_run rank f (receiving f)) (in_run_holds rank f (receiving f) i hi r) (in_run_holds rank f (receiving f) j hj too)
    (λ e. never_ahead rank law f sound i (subst (λ (z : ℕ). GoesAhead rank l (line f.register z)) e first)))
