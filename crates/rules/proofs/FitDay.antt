-- The bounds of the figures, kept over the end of a day.
use Rattle.std.proofs.Common.{◌≡◌, ℕ, zero, suc, ◌+◌, ◌-◌, ◌*◌, ◌<◌, ◌≤◌, Bool, true, false, cond, not, ◌&&◌, eqb, ltb, List, [], ◌∷◌, ◌++◌, map, length, get_or, ℤ, pos, ◌-ℤ◌, ◌*ℤ◌, nat_abs, sym, refl, ap, ◌∙◌, subst, ⊎_elim, mul-le-mul_right, mul-le-mul_left, arith, length-append, length-set}
use lib.ListN.{length-replicate}
use Rattle.std.specs.List.{AllByRecursion}
use Rattle.std.proofs.lemmas.List.{map-append, append-nil, get_or_append_left, get_or_push, length_push}
use Rattle.std.proofs.ByRecursion.{All-get_or}
use Rattle.std.proofs.lemmas.Bool.Decides.{nat_tests}
use Rattle.std.proofs.lemmas.Bool.{both_ways, cases_eq, eqb-true, eq-eqb, ne_eqb, lt-ltb, le-ltb, ltb-false, and_parts, and_from, and_left, and_right, cond-true, cond-false, cond_both}
use Rattle.book.specs.Ledger.{sum_to}
use Rattle.book.proofs.Sums.{sum_same, sum_more, term_within_sum}
use Rattle.rank.specs.declared.claim.Claim.{Claim}
use Rattle.register.specs.declared.line.Line.{Line}
use Rattle.register.specs.declared.Register.{Register}
use Rattle.rules.specs.declared.figures.Figures.{Figures}
use Rattle.register.specs.Limits.{most_quantity, most_price, most_money, register_places}
use Rattle.rules.specs.Limits.{last_day}
use Rattle.register.specs.Netting.{due_day}
use Rattle.rules.specs.State.{State, member, position, in_escrow, close, today, with_register, put_line}
use Rattle.register.specs.Lines.{no_line, line, of_member, rest_of, sum_if, with_line}
use Rattle.rules.specs.Run.{close_line, require, after_act, performed, places_if, line_closed, all_members}
use Rattle.rules.specs.Day.{traded_today, finished, dropped, next_morning, cleared_day, ended_day}
use Rattle.register.specs.Dropping.{lines_if, register_of}
use Rattle.rules.specs.Events.{unpriced}
use Rattle.rules.specs.Fit.{Shape, LineFits, Bounds, weight, most_difference, most_weight, most_due, due_of}
use Rattle.rules.proofs.Written.{line_with}
use Rattle.rules.proofs.Sums.{part}
use Rattle.rules.proofs.Acts.{performed_append, all_append, all_from_one}
use Rattle.rules.proofs.FitActs.{known_in, fits_in, size_product, size_difference, weight_most, part_le, bounds_require}

-- Sums by place: each term no larger, or larger by no more than a line's shares.
sum_le : (n : ℕ) (f g : ℕ → ℕ) → ((k : ℕ) → k < n → f k ≤ g k) → sum_to n f ≤ sum_to n g
sum_le zero f g h = omega arith
sum_le (suc n) f g h = let a = sum_le n f g (λ k l. h k (omega arith)) in let b = h n (omega arith) in omega arith

sum_le_shares : (n : ℕ) (f g : ℕ → ℕ) → ((k : ℕ) → k < n → f k ≤ g k + most_quantity) → sum_to n f ≤ sum_to n g + n * most_quantity
sum_le_shares zero f g h = omega arith
sum_le_shares (suc n) f g h = let a = sum_le_shares n f g (λ k l. h k (omega arith)) in let b = h n (omega arith) in omega arith

-- The figures c are f with the lines of today closed at the places below n.
record ClosedBelow (f : Figures) (n : ℕ) (c : Figures) : Type 0 where
  register : Register
  is : c ≡ with_register f register
  count : register.count ≡ f.register.count
  long : length register.lines ≡ length f.register.lines
  at : (i : ℕ) → line register i ≡ cond (ltb i n && traded_today f (line f.register i)) (line_closed f (line f.register i)) (line f.register i)

below_more_unlike : (i n : ℕ) → (i ≡ n → ⊥) → ltb i n ≡ ltb i (suc n)
below_more_unlike i n d = grind (arith, nat_tests)

-- One place more.
closed_more : (f : Figures) (n : ℕ) (c : Figures) → n < length f.register.lines → ClosedBelow f n c
    → traded_today f (line f.register n) ≡ true → ClosedBelow f (suc n) (put_line c n (line_closed c (line c.register n)))
closed_more f n c l h t = record {
  register = with_line h.register n k;
  is = ap (λ (z : Figures). put_line z n (line_closed z (line z.register n))) h.is
      ∙ ap (λ (x : Line). with_register f (with_line h.register n (line_closed f x))) old;
  count = h.count;
  long = length-set h.register.lines n k ∙ h.long;
  at = λ i. line_with h.register n k (let a = h.long in omega arith) i ∙ each i;
}
  where
    k : Line
    k = line_closed f (line f.register n)

    old : line h.register n ≡ line f.register n
    old = h.at n ∙ cond-false _ _ _ (and_left _ _ (le-ltb n n (omega arith)))

    each : (i : ℕ) → cond (eqb i n) k (line h.register i)
        ≡ cond (ltb i (suc n) && traded_today f (line f.register i)) (line_closed f (line f.register i)) (line f.register i)
    each i =
        ⊎_elim
        (λ (e : i ≡ n).
        cond-true (eqb i n) k _ (eq-eqb i n e)
        ∙ (ap (λ (j : ℕ). line_closed f (line f.register j)) (sym e)
        ∙ sym (cond-true _ _ _ (and_from _ _ (lt-ltb i (suc n) (omega arith)) (subst (λ (j : ℕ). traded_today f (line f.register j) ≡ true) (sym e) t)))))
        (λ (d : i ≡ n → ⊥).
        cond-false (eqb i n) k _ (ne_eqb i n d)
        ∙ (h.at i ∙ ap (λ (b : Bool). cond (b && traded_today f (line f.register i)) (line_closed f (line f.register i)) (line f.register i)) (below_more_unlike i n d)))
        (cases_eq i n)

closed_performed : (s : State) (n : ℕ) → n ≤ length s.figures.register.lines
    → ClosedBelow s.figures n (performed s (map close_line (places_if (traded_today s.figures) s.figures.register n))).figures
closed_performed s zero l = record {
  register = s.figures.register;
  is = refl;
  count = refl;
  long = refl;
  at = λ i. sym (cond-false _ _ _ (and_left _ _ (le-ltb i 0 (omega arith))));
}
closed_performed s (suc n) l =
    subst (λ (t : State). ClosedBelow f (suc n) t.figures)
    (sym (ap (performed s) (map-append close_line places (cond (p (line g n)) (n ∷ []) [])) ∙ performed_append s (map close_line places) _))
    (last (closed_performed s n (omega arith)) (p (line g n)) refl)
  where
    f : Figures
    f = s.figures

    g : Register
    g = s.figures.register

    p : Line → Bool
    p = traded_today s.figures

    places : List ℕ
    places = places_if p g n

    last : ClosedBelow f n (performed s (map close_line places)).figures → (b : Bool) → p (line g n) ≡ b
        → ClosedBelow f (suc n) (performed (performed s (map close_line places)) (map close_line (cond b (n ∷ []) []))).figures
    last before true e = closed_more f n _ (omega arith) before e
    last before false e = record {
      register = before.register;
      is = before.is;
      count = before.count;
      long = before.long;
      at = λ i. before.at i ∙ ap (λ (b : Bool). cond b (line_closed f (line g i)) (line g i)) (same i);
    }
      where
        same : (i : ℕ) → (ltb i n && p (line g i)) ≡ (ltb i (suc n) && p (line g i))
        same i =
            ⊎_elim
            (λ (q : i ≡ n). let z : p (line g i) ≡ false = ap (λ (j : ℕ). p (line g j)) q ∙ e in and_right _ _ z ∙ sym (and_right _ _ z))
            (λ (d : i ≡ n → ⊥). ap (λ (b : Bool). b && p (line g i)) (below_more_unlike i n d))
            (cases_eq i n)

-- What the end of the day leaves of a line: it fits the next morning and weighs no more.
record ClosedLine (f : Figures) (l k : Line) : Type 0 where
  fits : LineFits (next_morning f) k
  claim : k.claim ≡ l.claim
  weighs : weight k ≤ weight l

-- A line of an earlier day.
closed_earlier : (f : Figures) (l : Line) → LineFits f l → (l.claim.key.due ≡ due_day (today f) → ⊥) → ClosedLine f l l
closed_earlier f l h earlier = record { fits = fits; claim = refl; weighs = omega arith }
  where
    due : l.claim.key.due < due_day (today f)
    due =
        let a = h.known.due_known in
        ⊎_elim (λ (e : l.claim.key.due ≡ due_day (today f)). absurd (earlier e)) (λ n. omega arith) (cases_eq l.claim.key.due (due_day (today f)))

    fits : LineFits (next_morning f) l
    fits = record {
      known = known_in f (next_morning f) l _ refl (omega arith) refl h.known;
      quantity = h.quantity;
      money = h.money;
      order = h.order;
      highest = h.highest;
      lowest = h.lowest;
      price = h.price;
      priced = λ e. h.priced due;
      unpriced = λ e. absurd (omega arith);
      plain = h.plain;
      difference = h.difference;
      rest = h.rest;
    }

-- The money of a line less its quantity at a price.
size_closed : (money quantity : ℤ) (p : ℕ) → nat_abs money ≤ most_money → nat_abs quantity ≤ most_quantity → p ≤ most_price
    → nat_abs (money -ℤ quantity *ℤ pos p) ≤ most_difference
size_closed money quantity p h k l =
    let a = size_product quantity (pos p) in
    let b = mul-le-mul_right p k in
    let c = mul-le-mul_left most_quantity l in
    let d = size_difference money (quantity *ℤ pos p) in
    omega (arith, a, b, c, d)

-- A line of today.
closed_today : (f : Figures) (l : Line) → LineFits f l → ((t : ℕ) → close f t ≤ most_price) → l.claim.key.due ≡ due_day (today f)
    → 0 < close f l.claim.key.security → ClosedLine f l (line_closed f l)
closed_today f l h prices due some = record {
  fits = fits;
  claim = refl;
  weighs = let a = weight_most (next_morning f) (line_closed f l) fits in
      subst (λ (n : ℕ). weight (line_closed f l) ≤ n) (sym (cond-true _ _ _ (eq-eqb l.price 0 (h.unpriced due)))) a;
}
  where
    fits : LineFits (next_morning f) (line_closed f l)
    fits = record {
      known = known_in f (next_morning f) l _ refl (omega arith) refl h.known;
      quantity = h.quantity;
      money = h.money;
      order = h.order;
      highest = h.highest;
      lowest = h.lowest;
      price = prices l.claim.key.security;
      priced = λ e. some;
      unpriced = λ e. absurd (omega arith);
      plain = λ e. absurd (omega arith);
      difference = size_closed l.money l.claim.quantity (close f l.claim.key.security) h.money h.quantity (prices l.claim.key.security);
      rest = h.rest;
    }

-- Every line of today has a closing price when the day may end.
close_known : (f : Figures) → unpriced f ≡ false → (i : ℕ) → i < f.register.count → traded_today f (line f.register i) ≡ true
    → 0 < close f (line f.register i).claim.key.security
close_known f e i l t =
    let a = ltb-false 0 _ e in
    let b = term_within_sum f.register.count (λ j. cond (p (line f.register j)) 1 0) i l in
    ⊎_elim
    (λ (z : close f (line f.register i).claim.key.security ≡ 0).
    let c : cond (p (line f.register i)) 1 0 ≡ 1 = cond-true (p (line f.register i)) 1 0 (and_from _ _ t (eq-eqb _ 0 z)) in
    absurd (none _ _ c b a))
    (λ (n : close f (line f.register i).claim.key.security ≡ 0 → ⊥). some _ n)
    (cases_eq (close f (line f.register i).claim.key.security) 0)
  where
    p : Line → Bool
    p k = traded_today f k && eqb (close f k.claim.key.security) 0

    none : (x S : ℕ) → x ≡ 1 → x ≤ S → S ≤ 0 → ⊥
    none x S u v w = omega arith

    some : (x : ℕ) → (x ≡ 0 → ⊥) → 0 < x
    some x n = omega arith

-- The lines that are kept: they are lines of the register, no more of them, and their sums no larger.
all_lines_if : (P : Line → Type 0) (p : Line → Bool) (g : Register) (n : ℕ) → ((i : ℕ) → i < n → P (line g i)) → AllByRecursion P (lines_if p g n)
all_lines_if P p g zero h = tt
all_lines_if P p g (suc n) h =
    all_append P (lines_if p g n) _ (all_lines_if P p g n (λ i l. h i (omega arith)))
    (cond_both (p (line g n)) (line g n ∷ []) [] (AllByRecursion P) (λ e. (h n (omega arith), tt)) (λ e. tt))

sum_lines_if : (w : Line → ℕ) (p : Line → Bool) (g : Register) (n : ℕ)
    → sum_to (length (lines_if p g n)) (λ i. w (get_or (lines_if p g n) i no_line)) ≤ sum_to n (λ i. w (line g i))
sum_lines_if w p g zero = omega arith
sum_lines_if w p g (suc n) =
    let a = sum_lines_if w p g n in
    cond_both (p (line g n)) (line g n ∷ []) []
    (λ (ls : List Line). sum_to (length (lines_if p g n ++ ls)) (λ i. w (get_or (lines_if p g n ++ ls) i no_line)) ≤ sum_to n (λ i. w (line g i)) + w (line g n))
    (λ e. let b = pushed (lines_if p g n) (line g n) in omega arith)
    (λ e. let b = ap (λ (ls : List Line). sum_to (length ls) (λ i. w (get_or ls i no_line))) (append-nil (lines_if p g n)) in omega arith)
  where
    pushed : (ls : List Line) (k : Line) → sum_to (length (ls ++ k ∷ [])) (λ i. w (get_or (ls ++ k ∷ []) i no_line)) ≡ sum_to (length ls) (λ i. w (get_or ls i no_line)) + w k
    pushed ls k =
        ap (λ (n : ℕ). sum_to n (λ i. w (get_or (ls ++ k ∷ []) i no_line))) (length_push ls k)
        ∙ (sum_more (length ls) _
        ∙ (ap (λ (n : ℕ). n + w (get_or (ls ++ k ∷ []) (length ls) no_line)) (sum_same (length ls) _ _ (λ i l. ap w (get_or_append_left ls (k ∷ []) no_line i l)))
        ∙ ap (λ (x : Line). sum_to (length ls) (λ i. w (get_or ls i no_line)) + w x) (get_or_push ls k no_line (length ls) refl)))

length_lines_if : (p : Line → Bool) (g : Register) (n : ℕ) → length (lines_if p g n) ≤ n
length_lines_if p g zero = omega arith
length_lines_if p g (suc n) =
    let a = length_lines_if p g n in
    cond_both (p (line g n)) (line g n ∷ []) [] (λ (ls : List Line). length (lines_if p g n ++ ls) ≤ suc n)
    (λ e. let b = length-append (lines_if p g n) (line g n ∷ []) in omega arith)
    (λ e. let b = length-append {A = Line} (lines_if p g n) [] in omega arith)

sum_register_of : (w : Line → ℕ) (p : Line → Bool) (g : Register) (n : ℕ)
    → sum_to (register_of (lines_if p g n)).count (λ i. w (line (register_of (lines_if p g n)) i)) ≤ sum_to n (λ i. w (line g i))
sum_register_of w p g n =
    let a = sum_lines_if w p g n in
    let b = sum_same (length (lines_if p g n)) (λ i. w (line (register_of (lines_if p g n)) i)) (λ i. w (get_or (lines_if p g n) i no_line))
    (λ i l. ap w (get_or_append_left (lines_if p g n) _ no_line i l)) in
    omega arith

-- The lines that are kept of a register that has today's lines closed, and the next morning with them.
abbrev stays : Figures → Register → Line → Bool
stays f g l = not (finished (with_register f g) l)

abbrev kept : Figures → Register → List Line
kept f g = lines_if (stays f g) g g.count

abbrev morning : Figures → Register → Figures
morning f g = next_morning (dropped (with_register f g))

-- The morning after: lines closed, finished lines dropped, the next day.
module _ (f : Figures) (ok : Bounds f) (room : today f < last_day) (priced : unpriced f ≡ false) (c : Figures) (h : ClosedBelow f f.register.count c) where
  each_closed : (i : ℕ) → i < f.register.count → ClosedLine f (line f.register i) (line h.register i)
  each_closed i l =
      subst (ClosedLine f (line f.register i)) (sym (h.at i))
      (cond_both (ltb i f.register.count && traded_today f (line f.register i)) _ _ (ClosedLine f (line f.register i))
      (λ e. let t = (and_parts _ _ e).1 in
      closed_today f _ (ok.lines i l) ok.prices (eqb-true _ _ t) (close_known f priced i l t))
      (λ e. closed_earlier f _ (ok.lines i l) (λ q. both_ways _ e (and_from _ _ (lt-ltb _ _ l) (eq-eqb _ _ q)))))

  shape_morning : Shape (morning f h.register)
  shape_morning = record {
    some_member = o.some_member;
    few_members = o.few_members;
    some_security = o.some_security;
    few_securities = o.few_securities;
    some_day = omega arith;
    last = omega arith;
    few_lines = few;
    places = length-append (kept f h.register) _ ∙ (ap (λ (n : ℕ). length (kept f h.register) + n) (length-replicate _ no_line) ∙ filled _ few);
    records = o.records;
    rows = o.rows;
    cells = o.cells;
    closes = o.closes;
  }
    where
      o : Shape f
      o = ok.shape

      few : length (kept f h.register) ≤ register_places
      few = let a = length_lines_if (stays f h.register) h.register h.register.count in
          let b = h.count in let e = o.few_lines in omega arith

      filled : (n : ℕ) → n ≤ register_places → n + (register_places - n) ≡ register_places
      filled n l = omega arith

  -- A sum over the lines that are kept is no larger than a sum over all.
  sum_kept : (v : Line → ℕ)
      → sum_to (morning f h.register).register.count (λ i. v (line (morning f h.register).register i)) ≤ sum_to f.register.count (λ i. v (line h.register i))
  sum_kept v =
      let a = sum_register_of v (stays f h.register) h.register h.register.count in
      let e = ap (λ (n : ℕ). sum_to n (λ i. v (line h.register i))) h.count in
      omega arith

  fits_morning : (i : ℕ) → i < length (kept f h.register) → LineFits (morning f h.register) (line (morning f h.register).register i)
  fits_morning i l =
      subst (LineFits (morning f h.register)) (sym (get_or_append_left (kept f h.register) _ no_line i l))
      (All-get_or (LineFits (morning f h.register)) (kept f h.register) i no_line l
      (all_lines_if (LineFits (morning f h.register)) (stays f h.register) h.register h.register.count
      (λ j b. fits_in (next_morning f) (morning f h.register) _ refl refl (each_closed j (let a = h.count in omega arith)).fits)))

  weights_morning : (m : ℕ) → m < 25 → nat_abs (position f m) + (member f m).advances + sum_if (of_member m) weight (morning f h.register).register ≤ most_weight
  weights_morning m l =
      let a = sum_kept (part (of_member m) weight) in
      let b = sum_le f.register.count (λ i. part (of_member m) weight (line h.register i)) (λ i. part (of_member m) weight (line f.register i))
      (λ i k. let e = each_closed i k in part_le _ _ _ _ (ap (λ (x : Claim). eqb x.key.member m) e.claim) e.weighs) in
      let e = ok.weights m l in
      omega arith

  escrow_morning : (m t : ℕ) → in_escrow f m t + sum_if (due_of m t (suc (today f))) rest_of (morning f h.register).register ≤ suc (today f) * most_due
  escrow_morning m t =
      let a = sum_kept (part (due_of m t (suc (today f))) rest_of) in
      let b = sum_le_shares f.register.count (λ i. part (due_of m t (suc (today f))) rest_of (line h.register i)) (λ i. part (due_of m t (today f)) rest_of (line f.register i))
      (λ i k. let e = each_closed i k in
      let q = e.fits.rest in
      let r = e.fits.quantity in
      let x = part_most (due_of m t (suc (today f)) (line h.register i)) (line h.register i).rest in
      omega arith) in
      let e = ok.escrow m t in
      let n = ok.shape.few_lines in
      omega arith
    where
      part_most : (b : Bool) (n : ℕ) → cond b n 0 ≤ n
      part_most true n = omega arith
      part_most false n = omega arith

  bounds_morning : Bounds (next_morning (dropped c))
  bounds_morning =
      subst (λ (x : Figures). Bounds (next_morning (dropped x))) (sym h.is)
      (record { shape = shape_morning; lines = fits_morning; members = ok.members; prices = ok.prices; weights = weights_morning; escrow = escrow_morning })

-- Requirements look at no clock: the bounds of the next morning are kept while they are set.
bounds_required : (s : State) (ms : List ℕ) → AllByRecursion (λ m. m < 25) ms → Bounds (next_morning s.figures) → Bounds (next_morning (performed s (map require ms)).figures)
bounds_required s [] h ok = ok
bounds_required s (m ∷ ms) h ok = bounds_required (after_act s (require m)) ms h.1 (bounds_require (next_morning s.figures) ok m h.0 0)

pub bounds_ended : (s : State) → Bounds s.figures → today s.figures < last_day → unpriced s.figures ≡ false → Bounds (ended_day s).figures
bounds_ended s ok room priced =
    bounds_required (cleared_day s) (all_members (cleared_day s))
    (all_from_one (λ m. m < 25) (cleared_day s).figures.size.members (λ m a b. let q = cleared.shape.few_members in omega arith)) cleared
  where
    cleared : Bounds (next_morning (cleared_day s).figures)
    cleared = bounds_morning s.figures ok room priced _ (closed_performed s s.figures.register.count (let a = ok.shape.few_lines in let b = ok.shape.places in omega arith))
