-- The end of a day and cash settlement: acts that go through places of the register, and that they leave a house even.
use Rattle.std.proofs.Common.{◌≡◌, ℕ, zero, suc, ◌-◌, ◌<◌, ◌≤◌, Bool, true, false, cond, not, ◌&&◌, eqb, ltb, ◌⊎◌, List, [], ◌∷◌, ◌++◌, map, length, get_or, set, replicate, ℤ, pos, ◌+ℤ◌, ◌-ℤ◌, ◌*ℤ◌, neg_ℤ, nat_abs, sym, refl, ap, ◌∙◌, subst, inl, inr, ⊎_elim, arith, length-append, length-set}
use lib.ListN.{length-replicate}
use lib.IntN.{+ℤ_idr, zero-*ℤ}
use Rattle.std.proofs.lemmas.List.{append-nil, map-append, get_or-set_same, get_or-set_other, get_or_append_left, get_or_push, length_push, set_past}
use Rattle.std.proofs.lemmas.Int.{ints}
use Rattle.std.proofs.lemmas.Bool.Decides.{nat_tests}
use Rattle.std.proofs.lemmas.Bool.{cases_eq, cases_lt, cases_Bool, eq-eqb, ne_eqb, eqb-true, leb-true, lt-ltb, le-ltb, both_ways, and_parts, and_from, and_left, and_right, not_from_true, cond-true, cond-false, cond_both}
use Rattle.book.specs.Ledger.{Balances}
use Rattle.book.specs.Posting.{posted, takes_move}
use Rattle.rank.specs.declared.key.Key.{Key}
use Rattle.register.specs.declared.line.Line.{Line}
use Rattle.rules.specs.declared.figures.Member.{Member}
use Rattle.rules.specs.declared.figures.Phase.{Phase}
use Rattle.rules.specs.declared.figures.Phase.TheVariants.{Morning, Late, Shut}
use Rattle.register.specs.declared.Register.{Register}
use Rattle.rules.specs.declared.figures.Figures.{Figures}
use Rattle.register.specs.Limits.{register_places}
use Rattle.rules.specs.Limits.{last_day}
use Rattle.rules.specs.State.{State, pool, cash, no_member, member, position, close, today, with_register, with_records, with_figures, put_member, at_position, at_requirement}
use Rattle.register.specs.Lines.{no_line, line, key, delivers, receives, in_group, due_by, sum_z, sum_z_if}
use Rattle.register.specs.Netting.{due_day}
use Rattle.rules.specs.Run.{Act, close_line, compensate, require, noted, after_act, performed, places_if, all_members, required, line_closed, line_served, compensation_due}
use Rattle.rules.specs.Day.{traded_today, requirements, finished, dropped, next_morning, closed_day, ended_day, compensation, cash_settlements}
use Rattle.register.specs.Dropping.{lines_if}
use Rattle.rules.specs.Events.{is_morning, is_shut}
use Rattle.rules.specs.Fit.{Shape, Known}
use Rattle.rules.proofs.Written.{get_or_with}
use Rattle.rules.proofs.Sums.{sum_z_same, sum_z_zero, positions_with, part_z}
use Rattle.rules.proofs.Acts.{performed_append}
use Rattle.rules.proofs.Invariants.{SoundLines, settled_day, Rested}
use Rattle.rules.proofs.Groups.{same_if, none_if, known_like, sided, sided_whole, sum_z_plus, sum_z_times, EvenLines, Even, even_priced, even_rested, rested_even}

-- Acts on the places of the lines that pass a test: what holds at first and is kept at each place, holds at the end.
pub places_induct : (s : State) (f : ℕ → Act) (p : Line → Bool) (g : Register) (P : ℕ → State → Type 0) (most : ℕ)
    → P 0 s
    → ((n : ℕ) (t : State) → n < most → p (line g n) ≡ true → P n t → P (suc n) (after_act t (f n)))
    → ((n : ℕ) (t : State) → n < most → p (line g n) ≡ false → P n t → P (suc n) t)
    → (n : ℕ) → n ≤ most → P n (performed s (map f (places_if p g n)))
places_induct s f p g P most start more skip zero h = start
places_induct s f p g P most start more skip (suc n) h =
    subst (P (suc n)) (sym (ap (performed s) (map-append f (places_if p g n) (cond (p (line g n)) (n ∷ []) [])) ∙ performed_append s (map f (places_if p g n)) _))
    (last (performed s (map f (places_if p g n))) (places_induct s f p g P most start more skip n (omega arith)) (p (line g n)) refl)
  where
    last : (t : State) → P n t → (b : Bool) → p (line g n) ≡ b → P (suc n) (performed t (map f (cond b (n ∷ []) [])))
    last t i true e = more n t (omega arith) e i
    last t i false e = skip n t (omega arith) e i

-- A posting from an account to itself is not taken.
posted_same : (n m : ℕ) (f : Balances) (a u x : ℕ) → posted n m f a a u x ≡ f
posted_same n m f a u x =
    cond-false (takes_move n m f a a u x) _ f
    (and_right (ltb a n) _ (and_right (ltb a n) _ (and_left (not (eqb a a)) _ (not_from_true (eqb a a) (eq-eqb a a refl)))))

-- Of the first n lines of a register those that pass a test are written anew.
abbrev Rewritten : (Line → Bool) → (Line → Line) → Register → ℕ → List Line → Type 0
Rewritten p new g n ls =
    (length ls ≡ length g.lines) × ((j : ℕ) → get_or ls j no_line ≡ cond (ltb j n && p (line g j)) (new (line g j)) (line g j))

module _ (p : Line → Bool) (new : Line → Line) (g : Register) where
  rewritten_none : Rewritten p new g 0 g.lines
  rewritten_none = (refl, λ j. ap (λ b. cond (b && p (line g j)) (new (line g j)) (line g j)) (sym (le-ltb j 0 (omega arith))))

  other_place : (j n : ℕ) → (j ≡ n → ⊥) → ltb j n ≡ ltb j (suc n)
  other_place j n d = grind (arith, nat_tests)

  rewritten_skip : (n : ℕ) (ls : List Line) → p (line g n) ≡ false → Rewritten p new g n ls → Rewritten p new g (suc n) ls
  rewritten_skip n ls e r = (
    r.0,
    λ j. r.1 j ∙
        ⊎_elim
        (λ (q : j ≡ n). let f : p (line g j) ≡ false = ap (λ k. p (line g k)) q ∙ e in neither _ _ (ltb j n) (ltb j (suc n)) (p (line g j)) f)
        (λ (d : j ≡ n → ⊥). ap (λ b. cond (b && p (line g j)) (new (line g j)) (line g j)) (other_place j n d))
        (cases_eq j n),
  )
    where
      neither : (x y : Line) (a b c : Bool) → c ≡ false → cond (a && c) x y ≡ cond (b && c) x y
      neither x y a b c f = cond-false (a && c) x y (and_right a c f) ∙ sym (cond-false (b && c) x y (and_right b c f))

  -- The line at n is as it was until it is written.
  rewritten_next : (n : ℕ) (ls : List Line) → Rewritten p new g n ls → get_or ls n no_line ≡ line g n
  rewritten_next n ls r = r.1 n ∙ ap (λ b. cond (b && p (line g n)) (new (line g n)) (line g n)) (le-ltb n n (omega arith))

  rewritten_more : (n : ℕ) (ls : List Line) → n < length g.lines → p (line g n) ≡ true → Rewritten p new g n ls
      → Rewritten p new g (suc n) (set ls n (new (line g n)))
  rewritten_more n ls l e r = (
    length-set ls n _ ∙ r.0,
    λ j. get_or_with ls n (new (line g n)) no_line (let a = r.0 in omega arith) j ∙
        ⊎_elim
        (λ (q : j ≡ n).
        cond-true (eqb j n) _ _ (eq-eqb j n q)
        ∙ (ap (λ k. new (line g k)) (sym q)
        ∙ sym (cond-true (ltb j (suc n) && p (line g j)) _ _ (and_from (ltb j (suc n)) (p (line g j)) (lt-ltb j (suc n) (omega arith)) (ap (λ k. p (line g k)) q ∙ e)))))
        (λ (d : j ≡ n → ⊥).
        cond-false (eqb j n) _ _ (ne_eqb j n d) ∙ (r.1 j ∙ ap (λ b. cond (b && p (line g j)) (new (line g j)) (line g j)) (other_place j n d)))
        (cases_eq j n),
  )

-- The closings.
abbrev Closed : State → ℕ → State → Type 0
Closed s n t =
    (ls : List Line) × (t ≡ with_figures s (with_register s.figures (record { count = s.figures.register.count; lines = ls })))
    × Rewritten (traded_today s.figures) (line_closed s.figures) s.figures.register n ls

closed_more : (s : State) (n : ℕ) (t : State) → n < length s.figures.register.lines → traded_today s.figures (line s.figures.register n) ≡ true
    → Closed s n t → Closed s (suc n) (after_act t (close_line n))
closed_more s n t l e c =
    let f = s.figures in
    let next = rewritten_next (traded_today f) (line_closed f) f.register n c.0 c.2 in (
      set c.0 n (line_closed f (line f.register n)),
      ap (λ (u : State). after_act u (close_line n)) c.1
          ∙ ((λ i. record {
            figures = with_register f (record { count = f.register.count; lines = set c.0 n (line_closed f (get_or c.0 n no_line)) });
            accounts = s.accounts;
            assets = s.assets;
            held = posted_same s.accounts s.assets s.held pool cash 0 i;
          })
          ∙ ap (λ (k : Line). with_figures s (with_register f (record { count = f.register.count; lines = set c.0 n (line_closed f k) }))) next),
      rewritten_more (traded_today f) (line_closed f) f.register n c.0 l e c.2,
    )

closed_all : (s : State) → Shape s.figures → Closed s s.figures.register.count (closed_day s)
closed_all s h =
    places_induct s close_line (traded_today s.figures) s.figures.register (Closed s) s.figures.register.count
    (s.figures.register.lines, refl, rewritten_none (traded_today s.figures) (line_closed s.figures) s.figures.register)
    (λ n t l e c. closed_more s n t (let a = h.few_lines in let b = h.places in omega arith) e c)
    (λ n t l e c. (c.0, c.1, rewritten_skip (traded_today s.figures) (line_closed s.figures) s.figures.register n c.0 e c.2))
    s.figures.register.count (omega arith)

-- A place of a list with one more element: the last, or one of the list.
push_at : (xs : List Line) (y : Line) (i : ℕ) → i < length (xs ++ y ∷ [])
    → ((i ≡ length xs) × (get_or (xs ++ y ∷ []) i no_line ≡ y)) ⊎ ((i < length xs) × (get_or (xs ++ y ∷ []) i no_line ≡ get_or xs i no_line))
push_at xs y i l =
    let n = length_push xs y in
    ⊎_elim
    (λ (e : i ≡ length xs). inl (e, get_or_push xs y no_line i (sym e)))
    (λ (d : i ≡ length xs → ⊥). let h : i < length xs = omega arith in inr (h, get_or_append_left xs (y ∷ []) no_line i h))
    (cases_eq i (length xs))

-- The lines that pass a test: no more than there were, each one of them, no two with one key, and a sum over them is the sum over those that pass.
module _ (p : Line → Bool) (g : Register) where
  kept_count : (n : ℕ) → length (lines_if p g n) ≤ n
  kept_count zero = omega arith
  kept_count (suc n) =
      let h = kept_count n in
      cond_both (p (line g n)) (line g n ∷ []) [] (λ (ys : List Line). length (lines_if p g n ++ ys) ≤ suc n)
      (λ e. let k = length_push (lines_if p g n) (line g n) in omega arith)
      (λ e. let k = length-append {A = Line} (lines_if p g n) [] in omega arith)

  kept_source : (n i : ℕ) → i < length (lines_if p g n) → (j : ℕ) × (j < n) × (p (line g j) ≡ true) × (get_or (lines_if p g n) i no_line ≡ line g j)
  kept_source zero i = λ l. absurd (omega arith)
  kept_source (suc n) i =
      cond_both (p (line g n)) (line g n ∷ []) []
      (λ (ys : List Line). i < length (lines_if p g n ++ ys) → (j : ℕ) × (j < suc n) × (p (line g j) ≡ true) × (get_or (lines_if p g n ++ ys) i no_line ≡ line g j))
      (λ e l. ⊎_elim
      (λ (a : (i ≡ length (lines_if p g n)) × (get_or (lines_if p g n ++ line g n ∷ []) i no_line ≡ line g n)). (n, omega arith, e, a.1))
      (λ (b : (i < length (lines_if p g n)) × (get_or (lines_if p g n ++ line g n ∷ []) i no_line ≡ get_or (lines_if p g n) i no_line)).
      let r = kept_source n i b.0 in let m = r.1 in (r.0, omega arith, r.2, b.1 ∙ r.3))
      (push_at (lines_if p g n) (line g n) i l))
      (λ e. subst (λ (xs : List Line). i < length xs → (j : ℕ) × (j < suc n) × (p (line g j) ≡ true) × (get_or xs i no_line ≡ line g j)) (sym (append-nil (lines_if p g n)))
      (λ l. let r = kept_source n i l in let m = r.1 in (r.0, omega arith, r.2, r.3)))

  kept_differ : (n : ℕ) → ((i j : ℕ) → i < n → j < n → key g i ≡ key g j → i ≡ j) → (i j : ℕ) → i < length (lines_if p g n) → j < length (lines_if p g n)
      → (get_or (lines_if p g n) i no_line).claim.key ≡ (get_or (lines_if p g n) j no_line).claim.key → i ≡ j
  kept_differ zero d i j = λ l. absurd (omega arith)
  kept_differ (suc n) d i j =
      let rest = kept_differ n (λ a b l m. d a b (omega arith) (omega arith)) i j in
      cond_both (p (line g n)) (line g n ∷ []) []
      (λ (ys : List Line). i < length (lines_if p g n ++ ys) → j < length (lines_if p g n ++ ys)
      → (get_or (lines_if p g n ++ ys) i no_line).claim.key ≡ (get_or (lines_if p g n ++ ys) j no_line).claim.key → i ≡ j)
      (λ e l m q. ⊎_elim
      (λ (a : (i ≡ length (lines_if p g n)) × (get_or (lines_if p g n ++ line g n ∷ []) i no_line ≡ line g n)).
      ⊎_elim
      (λ (c : (j ≡ length (lines_if p g n)) × (get_or (lines_if p g n ++ line g n ∷ []) j no_line ≡ line g n)). a.0 ∙ sym c.0)
      (λ (c : (j < length (lines_if p g n)) × (get_or (lines_if p g n ++ line g n ∷ []) j no_line ≡ get_or (lines_if p g n) j no_line)).
      absurd (twice j c.0 (ap (λ (x : Line). x.claim.key) (sym c.1) ∙ (sym q ∙ ap (λ (x : Line). x.claim.key) a.1))))
      (push_at (lines_if p g n) (line g n) j m))
      (λ (b : (i < length (lines_if p g n)) × (get_or (lines_if p g n ++ line g n ∷ []) i no_line ≡ get_or (lines_if p g n) i no_line)).
      ⊎_elim
      (λ (c : (j ≡ length (lines_if p g n)) × (get_or (lines_if p g n ++ line g n ∷ []) j no_line ≡ line g n)).
      absurd (twice i b.0 (ap (λ (x : Line). x.claim.key) (sym b.1) ∙ (q ∙ ap (λ (x : Line). x.claim.key) c.1))))
      (λ (c : (j < length (lines_if p g n)) × (get_or (lines_if p g n ++ line g n ∷ []) j no_line ≡ get_or (lines_if p g n) j no_line)).
      rest b.0 c.0 (ap (λ (x : Line). x.claim.key) (sym b.1) ∙ (q ∙ ap (λ (x : Line). x.claim.key) c.1)))
      (push_at (lines_if p g n) (line g n) j m))
      (push_at (lines_if p g n) (line g n) i l))
      (λ e. subst (λ (xs : List Line). i < length xs → j < length xs → (get_or xs i no_line).claim.key ≡ (get_or xs j no_line).claim.key → i ≡ j) (sym (append-nil (lines_if p g n))) rest)
    where
      -- A kept line does not have the key of the line at n.
      twice : (k : ℕ) → k < length (lines_if p g n) → (get_or (lines_if p g n) k no_line).claim.key ≡ key g n → ⊥
      twice k l e = let r = kept_source n k l in let m = r.1 in let z = d r.0 n (omega arith) (omega arith) (ap (λ (x : Line). x.claim.key) (sym r.3) ∙ e) in omega arith

  kept_sum : (z : Line → ℤ) (n : ℕ) → sum_z (length (lines_if p g n)) (λ i. z (get_or (lines_if p g n) i no_line)) ≡ sum_z n (λ i. cond (p (line g i)) (z (line g i)) (pos 0))
  kept_sum z zero = refl
  kept_sum z (suc n) = go (kept_sum z n) (p (line g n))
    where
      all : List Line → ℤ
      all xs = sum_z (length xs) (λ i. z (get_or xs i no_line))

      push_sum : (xs : List Line) (y : Line) → all (xs ++ y ∷ []) ≡ all xs +ℤ z y
      push_sum xs y =
          ap (λ k. sum_z k (λ i. z (get_or (xs ++ y ∷ []) i no_line))) (let e = length_push xs y in let q : length (xs ++ y ∷ []) ≡ suc (length xs) = omega arith in q)
          ∙ both _ _ _ _ (sum_z_same (length xs) _ _ (λ i l. ap z (get_or_append_left xs (y ∷ []) no_line i l))) (ap z (get_or_push xs y no_line (length xs) refl))
        where
          both : (a b c d : ℤ) → a ≡ b → c ≡ d → a +ℤ c ≡ b +ℤ d
          both a b c d e q = omega (arith, ints)

      go : all (lines_if p g n) ≡ sum_z n (λ i. cond (p (line g i)) (z (line g i)) (pos 0)) → (b : Bool)
          → all (lines_if p g n ++ cond b (line g n ∷ []) []) ≡ sum_z n (λ i. cond (p (line g i)) (z (line g i)) (pos 0)) +ℤ cond b (z (line g n)) (pos 0)
      go h true = push_sum (lines_if p g n) (line g n) ∙ ap (λ x. x +ℤ z (line g n)) h
      go h false = ap all (append-nil (lines_if p g n)) ∙ (h ∙ sym (+ℤ_idr _))

-- A line without rest counts on no side.
sided_none : (x : Line) → x.rest ≡ 0 → sided x ≡ pos 0
sided_none x h = ap (λ r. cond (delivers x) (pos r) (cond (receives x) (neg_ℤ (pos r)) (pos 0))) h ∙ none (delivers x) (receives x)
  where
    none : (a b : Bool) → cond a (pos 0) (cond b (neg_ℤ (pos 0)) (pos 0)) ≡ pos 0
    none true b = refl
    none false true = refl
    none false false = refl

shut_settled : (p : Phase) (n m : ℕ) → is_shut p ≡ true → cond (is_morning p) n m ≡ m
shut_settled Morning n m e = absurd (both_ways false refl e)
shut_settled Late n m e = refl
shut_settled Shut n m e = refl

-- The money of a line traded today (a) in a security (b) is its new difference and its quantity at the closing price.
closed_parts : (f : Figures) (t : ℕ) (x : Line) (a b : Bool) → (b ≡ true → x.claim.key.security ≡ t)
    → cond (a && b) x.money (pos 0)
    ≡ cond (a && b) (cond a (line_closed f x) x).difference (pos 0) +ℤ cond (a && b) x.claim.quantity (pos 0) *ℤ pos (close f t)
closed_parts f t x true true h =
    back x.money (x.claim.quantity *ℤ pos (close f x.claim.key.security))
    ∙ ap (λ u. (x.money -ℤ x.claim.quantity *ℤ pos (close f x.claim.key.security)) +ℤ x.claim.quantity *ℤ pos (close f u)) (h refl)
  where
    back : (m v : ℤ) → m ≡ (m -ℤ v) +ℤ v
    back m v = omega (arith, ints)
closed_parts f t x true false h = sym (ap (λ v. pos 0 +ℤ v) (zero-*ℤ (pos (close f t))))
closed_parts f t x false b h = sym (ap (λ v. pos 0 +ℤ v) (zero-*ℤ (pos (close f t))))

-- The figures of a shut day after the closings, without finished lines, with other records, on the next morning.
module _ (f : Figures) (ls : List Line) (e : EvenLines f) (c : Rewritten (traded_today f) (line_closed f) f.register f.register.count ls)
    (shut : is_shut f.clock.phase ≡ true) (early : today f < last_day) (rs : List Member) (all_records : length rs ≡ 25) where
  abbrev closed : Figures
  closed = with_register f (record { count = f.register.count; lines = ls })

  abbrev stays : Line → Bool
  stays l = not (finished f l)

  abbrev morning : Figures
  morning = next_morning (with_records (dropped closed) rs)

  abbrev stayed : List Line
  stayed = lines_if stays closed.register f.register.count

  line_stayed : (i : ℕ) → i < length stayed → line morning.register i ≡ get_or stayed i no_line
  line_stayed i l = get_or_append_left stayed (replicate (register_places - length stayed) no_line) no_line i l

  -- The line at a place after the closings.
  abbrev new : ℕ → Line
  new j = cond (traded_today f (line f.register j)) (line_closed f (line f.register j)) (line f.register j)

  line_closing : (j : ℕ) → j < f.register.count → line closed.register j ≡ new j
  line_closing j l =
      c.1 j ∙ ap (λ b. cond (b && traded_today f (line f.register j)) (line_closed f (line f.register j)) (line f.register j)) (lt-ltb j f.register.count l)

  source : (i : ℕ) → i < length stayed → (j : ℕ) × (j < f.register.count) × (line morning.register i ≡ new j)
  source i l = let r = kept_source stays closed.register f.register.count i l in (r.0, r.1, line_stayed i l ∙ (r.3 ∙ line_closing r.0 r.1))

  -- What holds of each line as it was or as it was closed.
  new_all : (Q : Line → Type 0) → ((j : ℕ) → j < f.register.count → traded_today f (line f.register j) ≡ true → Q (line_closed f (line f.register j)))
      → ((j : ℕ) → j < f.register.count → traded_today f (line f.register j) ≡ false → Q (line f.register j)) → (j : ℕ) → j < f.register.count → Q (new j)
  new_all Q changed same j l = cond_both (traded_today f (line f.register j)) (line_closed f (line f.register j)) (line f.register j) Q (changed j l) (same j l)

  stayed_all : (Q : Line → Type 0) → ((j : ℕ) → j < f.register.count → traded_today f (line f.register j) ≡ true → Q (line_closed f (line f.register j)))
      → ((j : ℕ) → j < f.register.count → traded_today f (line f.register j) ≡ false → Q (line f.register j)) → (i : ℕ) → i < length stayed → Q (line morning.register i)
  stayed_all Q changed same i l = let r = source i l in subst Q (sym r.2) (new_all Q changed same r.0 r.1)

  -- A number that is 0 for finished lines adds up over the lines that stay as over all.
  stayed_sum : (p : Line → Bool) (z : Line → ℤ) → ((j : ℕ) → j < f.register.count → finished f (new j) ≡ true → z (new j) ≡ pos 0)
      → sum_z_if p z morning.register ≡ sum_z f.register.count (λ j. part_z p z (new j))
  stayed_sum p z none =
      sum_z_same (length stayed) _ _ (λ i l. ap (part_z p z) (line_stayed i l))
      ∙ (kept_sum stays closed.register (part_z p z) f.register.count
      ∙ sum_z_same f.register.count _ _ (λ j l.
      ap (λ (x : Line). cond (stays x) (part_z p z x) (pos 0)) (line_closing j l) ∙ one (finished f (new j)) (p (new j)) (z (new j)) (none j l)))
    where
      one : (a b : Bool) (v : ℤ) → (a ≡ true → v ≡ pos 0) → cond (not a) (cond b v (pos 0)) (pos 0) ≡ cond b v (pos 0)
      one true true v h = sym (h refl)
      one true false v h = refl
      one false b v h = refl

  shape_morning : Shape morning
  shape_morning = let q = e.shape in let k = kept_count stays closed.register f.register.count in record {
    some_member = q.some_member;
    few_members = q.few_members;
    some_security = q.some_security;
    few_securities = q.few_securities;
    some_day = omega arith;
    last = early;
    few_lines = let a = q.few_lines in omega arith;
    places =
        let a = q.few_lines in
        let b = length-append stayed (replicate (register_places - length stayed) no_line) in
        let d = length-replicate (register_places - length stayed) no_line in
        omega arith;
    records = all_records;
    rows = q.rows;
    cells = q.cells;
    closes = q.closes;
  }

  known_morning : (i : ℕ) → i < length stayed → Known morning (line morning.register i)
  known_morning =
      stayed_all (Known morning) (λ j l t. known_like f morning (line f.register j) (line_closed f (line f.register j)) refl (omega arith) refl (e.lines.known j l))
      (λ j l t. known_like f morning (line f.register j) (line f.register j) refl (omega arith) refl (e.lines.known j l))

  key_new : (j : ℕ) → (new j).claim.key ≡ key f.register j
  key_new j = cond_both (traded_today f (line f.register j)) (line_closed f (line f.register j)) (line f.register j) (λ (x : Line). x.claim.key ≡ key f.register j) (λ t. refl) (λ t. refl)

  differ_morning : (i j : ℕ) → i < length stayed → j < length stayed → key morning.register i ≡ key morning.register j → i ≡ j
  differ_morning i j l m q =
      kept_differ stays closed.register f.register.count
      (λ a b la lb k. e.lines.differ a b la lb (sym (at a la) ∙ (k ∙ at b lb)))
      i j l m (ap (λ (x : Line). x.claim.key) (sym (line_stayed i l)) ∙ (q ∙ ap (λ (x : Line). x.claim.key) (line_stayed j m)))
    where
      at : (a : ℕ) → a < f.register.count → key closed.register a ≡ key f.register a
      at a l = ap (λ (x : Line). x.claim.key) (line_closing a l) ∙ key_new a

  -- Lines closed today have the closing price of their security, the others the price that they had.
  price_new : (i j : ℕ) → i < f.register.count → j < f.register.count → (key f.register i).due ≡ (key f.register j).due
      → (key f.register i).security ≡ (key f.register j).security → (new i).price ≡ (new j).price
  price_new i j l m d t =
      ap (λ b. (cond b (line_closed f (line f.register i)) (line f.register i)).price) same
      ∙ by (traded_today f (line f.register j))
    where
      same : traded_today f (line f.register i) ≡ traded_today f (line f.register j)
      same = ap (λ x. eqb x (due_day (today f))) d

      by : (b : Bool) → (cond b (line_closed f (line f.register i)) (line f.register i)).price ≡ (cond b (line_closed f (line f.register j)) (line f.register j)).price
      by true = ap (close f) t
      by false = e.lines.one_price i j l m d t

  one_price_morning : (i j : ℕ) → i < length stayed → j < length stayed → (key morning.register i).due ≡ (key morning.register j).due
      → (key morning.register i).security ≡ (key morning.register j).security → (line morning.register i).price ≡ (line morning.register j).price
  one_price_morning i j l m d t =
      let a = source i l in
      let b = source j m in
      let p : key morning.register i ≡ key f.register a.0 = ap (λ (x : Line). x.claim.key) a.2 ∙ key_new a.0 in
      let q : key morning.register j ≡ key f.register b.0 = ap (λ (x : Line). x.claim.key) b.2 ∙ key_new b.0 in
      ap (λ (x : Line). x.price) a.2
      ∙ (price_new a.0 b.0 a.1 b.1
      (ap (λ (k : Key). k.due) (sym p) ∙ (d ∙ ap (λ (k : Key). k.due) q))
      (ap (λ (k : Key). k.security) (sym p) ∙ (t ∙ ap (λ (k : Key). k.security) q))
      ∙ sym (ap (λ (x : Line). x.price) b.2))

  -- Rests add up as before.
  even_morning : (d t : ℕ) → sum_z_if (in_group d t) sided morning.register ≡ pos 0
  even_morning d t =
      stayed_sum (in_group d t) sided (λ j l h. sided_none (new j) (eqb-true (new j).rest 0 (and_parts (due_by (today f) (new j)) (eqb (new j).rest 0) h).1))
      ∙ (sum_z_same f.register.count _ _ (λ j l.
      cond_both (traded_today f (line f.register j)) (line_closed f (line f.register j)) (line f.register j)
      (λ (x : Line). part_z (in_group d t) sided x ≡ part_z (in_group d t) sided (line f.register j)) (λ h. refl) (λ h. refl))
      ∙ e.even d t)

  -- A finished line is of an earlier day, and has no difference.
  no_difference : (j : ℕ) → j < f.register.count → finished f (new j) ≡ true → (new j).difference ≡ pos 0
  no_difference = new_all (λ (x : Line). finished f x ≡ true → x.difference ≡ pos 0)
      (λ j l t h.
      let a = eqb-true (key f.register j).due (due_day (today f)) t in
      let b = leb-true (key f.register j).due (today f) (and_parts (due_by (today f) (line f.register j)) (eqb (line f.register j).rest 0) h).0 in
      absurd (omega arith))
      (λ j l t h.
      let b = leb-true (key f.register j).due (today f) (and_parts (due_by (today f) (line f.register j)) (eqb (line f.register j).rest 0) h).0 in
      let q = shut_settled f.clock.phase (today f - 1) (today f) shut in
      e.settled j l (omega arith))

  -- Netted quantities of today's lines of a security add to 0: they are their rests.
  even_quantities : (t : ℕ) → sum_z_if (in_group (due_day (today f)) t) (λ l. l.claim.quantity) f.register ≡ pos 0
  even_quantities t =
      sum_z_same f.register.count _ _ (λ j l.
      same_if (in_group (due_day (today f)) t (line f.register j)) _ _ (λ h.
      let a = eqb-true (key f.register j).due (due_day (today f)) (and_parts (eqb (key f.register j).due (due_day (today f))) (eqb (key f.register j).security t) h).0 in
      sym (sided_whole (line f.register j) (e.whole j l (omega arith)))))
      ∙ e.even (due_day (today f)) t

  -- The new differences of today's lines of a security: money less quantity at the closing price.
  level_today : (t : ℕ) → sum_z f.register.count (λ j. part_z (in_group (due_day (today f)) t) (λ l. l.difference) (new j)) ≡ pos 0
  level_today t =
      less _ _
      (sym (e.fresh t) ∙ (sum_z_same f.register.count _ (λ j. part j +ℤ quantity j *ℤ pos (close f t)) (λ j l. at j) ∙ sum_z_plus f.register.count part _))
      (sum_z_times f.register.count quantity (pos (close f t)) ∙ (ap (λ x. x *ℤ pos (close f t)) (even_quantities t) ∙ zero-*ℤ (pos (close f t))))
    where
      part : ℕ → ℤ
      part j = part_z (in_group (due_day (today f)) t) (λ l. l.difference) (new j)

      quantity : ℕ → ℤ
      quantity j = part_z (in_group (due_day (today f)) t) (λ l. l.claim.quantity) (line f.register j)

      less : (S T : ℤ) → pos 0 ≡ S +ℤ T → T ≡ pos 0 → S ≡ pos 0
      less S T p q = omega (arith, ints)

      at : (j : ℕ) → part_z (in_group (due_day (today f)) t) (λ l. l.money) (line f.register j) ≡ part j +ℤ quantity j *ℤ pos (close f t)
      at j =
          closed_parts f t (line f.register j) (traded_today f (line f.register j)) (eqb (key f.register j).security t) (eqb-true (key f.register j).security t)
          ∙ ap (λ (b : Bool). cond b (new j).difference (pos 0) +ℤ quantity j *ℤ pos (close f t))
          (ap (λ (k : Key). eqb k.due (due_day (today f)) && eqb k.security t) (sym (key_new j)))

  level_morning : (d t : ℕ) → sum_z_if (in_group d t) (λ l. l.difference) morning.register ≡ pos 0
  level_morning d t =
      stayed_sum (in_group d t) (λ l. l.difference) no_difference
      ∙ ⊎_elim
      (λ (q : d ≡ due_day (today f)). ap (λ x. sum_z f.register.count (λ j. part_z (in_group x t) (λ l. l.difference) (new j))) q ∙ level_today t)
      (λ (ne : d ≡ due_day (today f) → ⊥).
      sum_z_same f.register.count _ _ (λ j l.
      cond_both (traded_today f (line f.register j)) (line_closed f (line f.register j)) (line f.register j)
      (λ (x : Line). part_z (in_group d t) (λ k. k.difference) x ≡ part_z (in_group d t) (λ k. k.difference) (line f.register j))
      (λ h.
      let a = eqb-true (key f.register j).due (due_day (today f)) h in
      let out : in_group d t (line f.register j) ≡ false = and_left (eqb (key f.register j).due d) _ (ne_eqb (key f.register j).due d (λ q. ne (sym q ∙ a))) in
      cond-false (in_group d t (line f.register j)) _ (pos 0) out ∙ sym (cond-false (in_group d t (line f.register j)) _ (pos 0) out))
      (λ h. refl))
      ∙ e.level d t)
      (cases_eq d (due_day (today f)))

  -- No line falls due as late as trades of the next day do.
  fresh_morning : (t : ℕ) → sum_z_if (in_group (due_day (today morning)) t) (λ l. l.money) morning.register ≡ pos 0
  fresh_morning t = sum_z_zero (length stayed) _ (stayed_all (λ (x : Line). part_z (in_group (due_day (today morning)) t) (λ l. l.money) x ≡ pos 0) (λ j l h. none _ j l) (λ j l h. none _ j l))
    where
      none : (v : ℤ) (j : ℕ) → j < f.register.count → cond (in_group (due_day (today morning)) t (line f.register j)) v (pos 0) ≡ pos 0
      none v j l = let a = (e.lines.known j l).due_known in
          cond-false (in_group (due_day (today morning)) t (line f.register j)) _ (pos 0) (and_left (eqb (key f.register j).due (due_day (today morning))) _ (ne_eqb _ _ (λ q. omega arith)))

  even_lines_morning : EvenLines morning
  even_lines_morning = record {
    shape = shape_morning;
    lines = record { known = known_morning; differ = differ_morning; one_price = one_price_morning };
    within = stayed_all (λ (x : Line). x.rest ≤ nat_abs x.claim.quantity) (λ j l h. e.within j l) (λ j l h. e.within j l);
    even = even_morning;
    level = level_morning;
    fresh = fresh_morning;
    whole = stayed_all (λ (x : Line). today morning < x.claim.key.due → x.rest ≡ nat_abs x.claim.quantity)
        (λ j l h k. e.whole j l (omega arith)) (λ j l h k. e.whole j l (omega arith));
    unpriced = stayed_all (λ (x : Line). x.claim.key.due ≡ due_day (today morning) → (x.price ≡ 0) × (x.difference ≡ pos 0))
        (λ j l h k. let a = (e.lines.known j l).due_known in absurd (omega arith)) (λ j l h k. let a = (e.lines.known j l).due_known in absurd (omega arith));
    settled = stayed_all (λ (x : Line). x.claim.key.due ≤ settled_day morning → x.difference ≡ pos 0)
        (λ j l h k. let a = eqb-true (key f.register j).due (due_day (today f)) h in absurd (omega arith))
        (λ j l h k. let q = shut_settled f.clock.phase (today f - 1) (today f) shut in e.settled j l (omega arith));
  }

-- The requirements write records alone, and no position.
abbrev Required : State → State → Type 0
Required s t =
    (rs : List Member) × (t ≡ with_figures s (with_records s.figures rs)) × (length rs ≡ length s.figures.records)
    × ((k : ℕ) → (get_or rs k no_member).position ≡ position s.figures k)

required_all : (s : State) (ms : List ℕ) → Required s (performed s (map require ms))
required_all s [] = (s.figures.records, refl, refl, λ k. refl)
required_all s (m ∷ ms) =
    let r = at_requirement (member s.figures m) (required s.figures m) in
    let u = with_figures s (put_member s.figures m r) in
    let h = required_all u ms in (
      h.0,
      ap (λ (x : State). performed x (map require ms)) (one r) ∙ h.1,
      h.2 ∙ length-set s.figures.records m r,
      λ k. h.3 k ∙ written r refl k,
    )
  where
    one : (r : Member) → record { figures = put_member s.figures m r; accounts = s.accounts; assets = s.assets; held = posted s.accounts s.assets s.held pool pool cash 0 }
        ≡ with_figures s (put_member s.figures m r)
    one r = λ i. record { figures = put_member s.figures m r; accounts = s.accounts; assets = s.assets; held = posted_same s.accounts s.assets s.held pool cash 0 i }

    written : (r : Member) → r.position ≡ position s.figures m → (k : ℕ) → position (put_member s.figures m r) k ≡ position s.figures k
    written r e k =
        ⊎_elim
        (λ (q : k ≡ m). ⊎_elim
        (λ l. ap (λ (x : Member). x.position) (ap (λ j. get_or (set s.figures.records m r) j no_member) q ∙ get_or-set_same s.figures.records m r no_member l) ∙ (e ∙ ap (position s.figures) (sym q)))
        (λ l. ap (λ (xs : List Member). (get_or xs k no_member).position) (set_past s.figures.records m r l))
        (cases_lt m (length s.figures.records)))
        (λ (d : k ≡ m → ⊥). ap (λ (x : Member). x.position) (get_or-set_other s.figures.records m k r no_member d))
        (cases_eq k m)

-- The end of a shut day.
abbrev after_closings : State → State
after_closings t =
    let u = with_figures t (dropped t.figures) in
    let v = performed u (requirements u) in
    with_figures v (next_morning v.figures)

pub rested_end : (s : State) → is_shut s.figures.clock.phase ≡ true → today s.figures < last_day → Rested s → Rested (ended_day s)
rested_end s shut early h =
    let e = even_rested s h in
    let c = closed_all s e.lines.shape in
    let f = with_register s.figures (record { count = s.figures.register.count; lines = c.0 }) in
    let u = with_figures s (dropped f) in
    let r = required_all u (all_members u) in
    let end : ended_day s ≡ with_figures s (next_morning (with_records (dropped f) r.0))
    = ap after_closings c.1 ∙ ap (λ (v : State). with_figures v (next_morning v.figures)) r.1 in
    rested_even (ended_day s) (subst Even (sym end) (record {
      lines = even_lines_morning s.figures c.0 e.lines c.2 shut early r.0 (r.2 ∙ e.lines.shape.records);
      accounts = e.accounts;
      assets = e.assets;
      small = e.small;
      escrowed = e.escrowed;
      empty = e.empty;
      money = ap (λ (x : ℤ). x +ℤ pos (s.held pool cash)) (sum_z_same (suc s.figures.size.members) _ (position s.figures) (λ k l. r.3 k)) ∙ e.money;
    }))

-- Cash settlement of a due day and security, at c for a share: lines and positions after the first n places.
abbrev served_whole : Line → Line
served_whole l = line_served l l.rest

abbrev Compensated : State → ℕ → ℕ → ℕ → ℕ → State → Type 0
Compensated s d t c n u =
    (ls : List Line) × (rs : List Member)
    × (u ≡ with_figures s (with_records (with_register s.figures (record { count = s.figures.register.count; lines = ls })) rs))
    × Rewritten (in_group d t) served_whole s.figures.register n ls
    × (length rs ≡ length s.figures.records)
    × (sum_z (suc s.figures.size.members) (λ m. (get_or rs m no_member).position)
    ≡ sum_z (suc s.figures.size.members) (position s.figures) +ℤ sum_z n (λ i. part_z (in_group d t) (λ l. compensation_due l c) (line s.figures.register i)))

module _ (s : State) (h : Shape s.figures) (k : SoundLines s.figures) (d t c : ℕ) where
  compensated_none : Compensated s d t c 0 s
  compensated_none =
      (s.figures.register.lines, s.figures.records, refl, rewritten_none (in_group d t) served_whole s.figures.register, refl, sym (+ℤ_idr _))

  compensated_skip : (n : ℕ) (u : State) → in_group d t (line s.figures.register n) ≡ false → Compensated s d t c n u → Compensated s d t c (suc n) u
  compensated_skip n u e q = (
    q.0,
    q.1,
    q.2,
    rewritten_skip (in_group d t) served_whole s.figures.register n q.0 e q.3,
    q.4,
    q.5 ∙ ap (λ z. sum_z (suc s.figures.size.members) (position s.figures) +ℤ z)
        (sym (ap (λ b. sum_z n (λ i. part_z (in_group d t) (λ l. compensation_due l c) (line s.figures.register i)) +ℤ cond b (compensation_due (line s.figures.register n) c) (pos 0)) e ∙ +ℤ_idr _)),
  )

  compensated_more : (n : ℕ) (u : State) → n < s.figures.register.count → in_group d t (line s.figures.register n) ≡ true
      → Compensated s d t c n u → Compensated s d t c (suc n) (after_act u (compensate n c))
  compensated_more n u l e q =
      let f = s.figures in
      let a = line f.register n in
      let m = a.claim.key.member in
      let rs = q.1 in
      let before = with_records (with_register f (record { count = f.register.count; lines = q.0 })) rs in
      let r = at_position (get_or rs m no_member) ((get_or rs m no_member).position +ℤ compensation_due a c) in
      let next : get_or q.0 n no_line ≡ a = rewritten_next (in_group d t) served_whole f.register n q.0 q.3 in (
        set q.0 n (served_whole a),
        set rs m r,
        ap (λ (v : State). after_act v (compensate n c)) q.2
            ∙ ((λ i. record {
              figures = noted before (compensate n c) 0;
              accounts = s.accounts;
              assets = s.assets;
              held = posted_same s.accounts s.assets s.held pool cash 0 i;
            })
            ∙ ap (λ (x : Line). with_figures s (with_records (with_register f (record { count = f.register.count; lines = set q.0 n (served_whole x) }))
            (set rs x.claim.key.member (at_position (get_or rs x.claim.key.member no_member) ((get_or rs x.claim.key.member no_member).position +ℤ compensation_due x c))))) next),
        rewritten_more (in_group d t) served_whole f.register n q.0 (let x = h.few_lines in let y = h.places in omega arith) e q.3,
        length-set rs m r ∙ q.4,
        add _ _ (sum_z (suc f.size.members) (position f)) (sum_z n (λ i. part_z (in_group d t) (λ x. compensation_due x c) (line f.register i))) _ _ _
            (positions_with (suc f.size.members) before m r (let x = (k.known n l).member_known in omega arith)
            (let x = (k.known n l).member_known in let y = h.few_members in let z = h.records in let w = q.4 in omega arith))
            q.5 (cond-true (in_group d t a) (compensation_due a c) (pos 0) e),
      )
    where
      add : (S T U z p v w : ℤ) → S +ℤ p ≡ T +ℤ (p +ℤ v) → T ≡ U +ℤ z → w ≡ v → S ≡ U +ℤ (z +ℤ w)
      add S T U z p v w x y o = omega (arith, ints)

  compensated_all : Compensated s d t c s.figures.register.count (performed s (map (λ i. compensate i c) (places_if (in_group d t) s.figures.register s.figures.register.count)))
  compensated_all =
      places_induct s (λ i. compensate i c) (in_group d t) s.figures.register (Compensated s d t c) s.figures.register.count
      compensated_none (λ n u l e q. compensated_more n u l e q) (λ n u l e q. compensated_skip n u e q) s.figures.register.count (omega arith)

-- The figures after cash settlement of an earlier due day and a security.
module _ (f : Figures) (ls : List Line) (rs : List Member) (d t : ℕ) (e : EvenLines f) (past : d < today f)
    (r : Rewritten (in_group d t) served_whole f.register f.register.count ls) (all_records : length rs ≡ 25) where
  abbrev paid : Figures
  paid = with_records (with_register f (record { count = f.register.count; lines = ls })) rs

  abbrev old : ℕ → Line
  old j = line f.register j

  line_paid : (j : ℕ) → j < f.register.count → line paid.register j ≡ cond (in_group d t (old j)) (served_whole (old j)) (old j)
  line_paid j l = r.1 j ∙ ap (λ b. cond (b && in_group d t (old j)) (served_whole (old j)) (old j)) (lt-ltb j f.register.count l)

  paid_all : (Q : ℕ → Line → Type 0) → ((j : ℕ) → j < f.register.count → in_group d t (old j) ≡ true → Q j (served_whole (old j)))
      → ((j : ℕ) → j < f.register.count → in_group d t (old j) ≡ false → Q j (old j)) → (j : ℕ) → j < f.register.count → Q j (line paid.register j)
  paid_all Q changed same j l = subst (Q j) (sym (line_paid j l)) (cond_both (in_group d t (old j)) (served_whole (old j)) (old j) (Q j) (changed j l) (same j l))

  -- All but rests is as it was.
  same_paid : {A : Type 0} (z : Line → A) → ((l : Line) → z (served_whole l) ≡ z l) → (j : ℕ) → j < f.register.count → z (line paid.register j) ≡ z (old j)
  same_paid z h = paid_all (λ j x. z x ≡ z (old j)) (λ j l g. h (old j)) (λ j l g. refl)

  key_paid : (j : ℕ) → j < f.register.count → key paid.register j ≡ key f.register j
  key_paid = same_paid (λ (l : Line). l.claim.key) (λ l. refl)

  lines_paid : SoundLines paid
  lines_paid = record {
    known = λ j l. known_like f paid (old j) (line paid.register j) refl (omega arith) (key_paid j l) (e.lines.known j l);
    differ = λ i j l m q. e.lines.differ i j l m (sym (key_paid i l) ∙ (q ∙ key_paid j m));
    one_price = λ i j l m a b.
        same_paid (λ (x : Line). x.price) (λ x. refl) i l
        ∙ (e.lines.one_price i j l m
        (ap (λ (k : Key). k.due) (sym (key_paid i l)) ∙ (a ∙ ap (λ (k : Key). k.due) (key_paid j m)))
        (ap (λ (k : Key). k.security) (sym (key_paid i l)) ∙ (b ∙ ap (λ (k : Key). k.security) (key_paid j m)))
        ∙ sym (same_paid (λ (x : Line). x.price) (λ x. refl) j m));
  }

  -- The group's rests are 0, the others as they were.
  even_paid : (a b : ℕ) → sum_z_if (in_group a b) sided paid.register ≡ pos 0
  even_paid a b =
      ⊎_elim
      (λ (w : (eqb d a && eqb t b) ≡ true).
      let q = and_parts (eqb d a) (eqb t b) w in
      let out : (x : Line) → in_group d t x ≡ false → in_group a b x ≡ false
      = λ x g. ap (λ y. eqb x.claim.key.due y && eqb x.claim.key.security b) (sym (eqb-true d a q.0))
      ∙ (ap (λ y. eqb x.claim.key.due d && eqb x.claim.key.security y) (sym (eqb-true t b q.1)) ∙ g) in
      sum_z_zero f.register.count _ (paid_all (λ j x. part_z (in_group a b) sided x ≡ pos 0)
      (λ j l g. none_if (in_group a b (old j)) (sided (served_whole (old j))) (sided_none (served_whole (old j)) (omega arith)))
      (λ j l g. cond-false (in_group a b (old j)) (sided (old j)) (pos 0) (out (old j) g))))
      (λ (w : (eqb d a && eqb t b) ≡ false).
      sum_z_same f.register.count _ _ (paid_all (λ j x. part_z (in_group a b) sided x ≡ part_z (in_group a b) sided (old j))
      (λ j l g.
      let o : in_group a b (old j) ≡ false = other (old j) g ∙ w in
      cond-false (in_group a b (old j)) (sided (served_whole (old j))) (pos 0) o ∙ sym (cond-false (in_group a b (old j)) (sided (old j)) (pos 0) o))
      (λ j l g. refl))
      ∙ e.even a b)
      (cases_Bool (eqb d a && eqb t b))
    where
      -- A line of the group is in another just where the two are one.
      other : (x : Line) → in_group d t x ≡ true → in_group a b x ≡ (eqb d a && eqb t b)
      other x g =
          let q = and_parts (eqb x.claim.key.due d) (eqb x.claim.key.security t) g in
          ap (λ y. eqb y a && eqb x.claim.key.security b) (eqb-true x.claim.key.due d q.0) ∙ ap (λ y. eqb d a && eqb y b) (eqb-true x.claim.key.security t q.1)

  even_lines_paid : EvenLines paid
  even_lines_paid = record {
    shape = let q = e.shape in record {
      some_member = q.some_member;
      few_members = q.few_members;
      some_security = q.some_security;
      few_securities = q.few_securities;
      some_day = q.some_day;
      last = q.last;
      few_lines = q.few_lines;
      places = r.0 ∙ q.places;
      records = all_records;
      rows = q.rows;
      cells = q.cells;
      closes = q.closes;
    };
    lines = lines_paid;
    within = paid_all (λ j x. x.rest ≤ nat_abs x.claim.quantity) (λ j l g. omega arith) (λ j l g. e.within j l);
    even = even_paid;
    level = λ a b. sum_z_same f.register.count _ _ (λ j l. same_paid (part_z (in_group a b) (λ (x : Line). x.difference)) (λ x. refl) j l) ∙ e.level a b;
    fresh = λ b. sum_z_same f.register.count _ _ (λ j l. same_paid (part_z (in_group (due_day (today f)) b) (λ (x : Line). x.money)) (λ x. refl) j l) ∙ e.fresh b;
    whole = paid_all (λ j x. today f < x.claim.key.due → x.rest ≡ nat_abs x.claim.quantity)
        (λ j l g h. let q = eqb-true (key f.register j).due d (and_parts (eqb (key f.register j).due d) (eqb (key f.register j).security t) g).0 in absurd (omega arith))
        (λ j l g. e.whole j l);
    unpriced = paid_all (λ j x. x.claim.key.due ≡ due_day (today f) → (x.price ≡ 0) × (x.difference ≡ pos 0)) (λ j l g. e.unpriced j l) (λ j l g. e.unpriced j l);
    settled = paid_all (λ j x. x.claim.key.due ≤ settled_day f → x.difference ≡ pos 0) (λ j l g. e.settled j l) (λ j l g. e.settled j l);
  }

pub rested_cash : (s : State) (due t highest : ℕ) → due < today s.figures → Rested s → Rested (performed s (cash_settlements s due t highest))
rested_cash s due t highest past h =
    let e = even_rested s h in
    let c = compensation highest in
    let q = compensated_all s e.lines.shape e.lines.lines due t c in
    let none = even_priced s.figures e.lines due t (λ p. pos c -ℤ pos p) in
    rested_even _ (subst Even (sym q.2) (record {
      lines = even_lines_paid s.figures q.0 q.1 due t e.lines past q.3 (q.4 ∙ e.lines.shape.records);
      accounts = e.accounts;
      assets = e.assets;
      small = e.small;
      escrowed = e.escrowed;
      empty = e.empty;
      money = sum _ _ _ _ q.5 none e.money;
    }))
  where
    sum : (S T z x : ℤ) → S ≡ T +ℤ z → z ≡ pos 0 → T +ℤ x ≡ pos 0 → S +ℤ x ≡ pos 0
    sum S T z x p o m = omega (arith, ints)
