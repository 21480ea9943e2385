-- The bounds of the figures, kept by one act.
use Rattle.std.proofs.Common.{◌≡◌, ℕ, zero, suc, ◌+◌, ◌-◌, ◌*◌, ◌<◌, ◌≤◌, min, Bool, true, false, cond, ◌&&◌, eqb, leb, List, length, get_or, set, ℤ, pos, negsuc, ◌+ℤ◌, ◌-ℤ◌, ◌*ℤ◌, neg_ℤ, nat_abs, sym, refl, ap, ◌∙◌, subst, mul-le-mul_left, arith, length-set}
use Rattle.std.proofs.lemmas.Int.{ints}
use Rattle.std.proofs.lemmas.Bool.{eqb-true, eqb-false, leb-true, le-leb, and_parts, and_from, cond_both, cond-true, cond-false, ne_eqb, eq-eqb}
use Rattle.book.specs.Ledger.{sum_to}
use Rattle.rank.specs.declared.key.Key.{Key}
use Rattle.rank.specs.declared.claim.Claim.{Claim}
use Rattle.rules.specs.declared.figures.Size.{Size}
use Rattle.register.specs.declared.line.Line.{Line}
use Rattle.rules.specs.declared.figures.Member.{Member}
use Rattle.register.specs.declared.Register.{Register}
use Rattle.rules.specs.declared.figures.Figures.{Figures}
use Rattle.register.specs.Limits.{most_price}
use Rattle.rules.specs.Limits.{most_growth}
use Rattle.rules.specs.State.{State, no_member, member, position, in_escrow, close, today, above, below, with_records, put_line, put_member, put_escrow, at_position, at_advances}
use Rattle.register.specs.Lines.{line, signed_rest, receives, of_member, rest_of, sum_z, sum_if, sum_z_if, with_line}
use Rattle.rules.specs.Charges.{charged_record}
use Rattle.rules.specs.Run.{Act, settle, give, give_escrow, serve, pay, pay_out, repay, pay_charges, pass, mark_line, mark, charge, compensate, close_line, require, Source, own, from_collateral, from_contribution, from_reserve, paid_more, line_served, line_marked, compensation_due, exposure, noted, after_act, moved_position}
use Rattle.rules.specs.Fit.{Shape, Known, LineFits, MemberFits, Bounds, weight, full_weight, most_compensation, most_weight, most_due, due_of}
use Rattle.rules.proofs.Written.{line_with, member_with, escrow_with}
use Rattle.rules.proofs.Sums.{part, sum_if_with}
use Rattle.rules.proofs.Acts.{OfRun, MemberOf, shape_member, shape_escrow, shape_noted}

-- What a line names is known to a house of the same size, on the same day or a later one.
pub known_in : (f g : Figures) (l k : Line) → g.size ≡ f.size → today f ≤ today g → k.claim.key ≡ l.claim.key → Known f l → Known g k
known_in f g l k s d e h =
    let a = ap (λ (z : Size). z.members) s in
    let b = ap (λ (z : Size). z.securities) s in
    let m = ap (λ (j : Key). j.member) e in
    let t = ap (λ (j : Key). j.security) e in
    let u = ap (λ (j : Key). j.due) e in
    record { some_member = omega arith; member_known = omega arith; some_security = omega arith; security_known = omega arith; due_known = omega arith }

-- The facts of a line look at the size of the house and at the day alone.
pub fits_in : (f g : Figures) (l : Line) → g.size ≡ f.size → today g ≡ today f → LineFits f l → LineFits g l
fits_in f g l s d h = record {
  known = known_in f g l l s (omega arith) refl h.known;
  quantity = h.quantity;
  money = h.money;
  order = h.order;
  highest = h.highest;
  lowest = h.lowest;
  price = h.price;
  priced = λ e. h.priced (omega arith);
  unpriced = λ e. h.unpriced (omega arith);
  plain = h.plain;
  difference = h.difference;
  rest = h.rest;
}

-- What a line weighs once it has a settlement price, and at most.
weight_priced : (l : Line) → 0 < l.price → weight l ≡ nat_abs l.difference + l.rest * most_compensation
weight_priced l h = cond-false (eqb l.price 0) _ _ (ne_eqb l.price 0 (λ e. omega arith))

pub weight_most : (f : Figures) (l : Line) → LineFits f l → weight l ≤ full_weight
weight_most f l h =
    cond_both (eqb l.price 0) full_weight (nat_abs l.difference + l.rest * most_compensation) (λ (n : ℕ). n ≤ full_weight)
    (λ e. omega arith) (λ e. let a = h.rest in let b = h.quantity in let c = h.difference in omega arith)

-- What holds of a line or a record that is written, and of the one that stood before at other places, holds at each place.
at_line : (f : Figures) → Shape f → (i : ℕ) → i < f.register.count → (k : Line) (P : Line → Type 0) (j : ℕ)
    → (j ≡ i → P k) → ((j ≡ i → ⊥) → P (line f.register j)) → P (line (put_line f i k).register j)
at_line f h i l k P j here there =
    subst P (sym (line_with f.register i k (let a = h.few_lines in let b = h.places in omega arith) j))
    (cond_both (eqb j i) k (line f.register j) P (λ e. here (eqb-true j i e)) (λ e. there (eqb-false j i e)))

at_member : (f : Figures) → Shape f → (m : ℕ) → m < 25 → (r : Member) (P : Member → Type 0) (j : ℕ)
    → (j ≡ m → P r) → ((j ≡ m → ⊥) → P (member f j)) → P (member (put_member f m r) j)
at_member f h m l r P j here there =
    subst P (sym (member_with f m r (let a = h.records in omega arith) j))
    (cond_both (eqb j m) r (member f j) P (λ e. here (eqb-true j m e)) (λ e. there (eqb-false j m e)))

at_escrow : (f : Figures) → Shape f → (m t n : ℕ) → m < 25 → t < 17 → (P : ℕ → Type 0) (j u : ℕ)
    → (j ≡ m → u ≡ t → P n) → P (in_escrow f j u) → P (in_escrow (put_escrow f m t n) j u)
at_escrow f h m t n l k P j u here there =
    subst P (sym (escrow_with f m t n (let a = h.rows in omega arith) (let a = h.cells m l in omega arith) j u))
    (cond_both (eqb j m && eqb u t) n (in_escrow f j u) P
    (λ e. let b = and_parts _ _ e in here (eqb-true j m b.0) (eqb-true u t b.1)) (λ e. there))

pub part_le : (b c : Bool) (x y : ℕ) → b ≡ c → x ≤ y → cond b x 0 ≤ cond c y 0
part_le b c x y e h =
    subst (λ (t : Bool). cond b x 0 ≤ cond t y 0) e
    (cond_both b x 0 (λ (n : ℕ). n ≤ cond b y 0) (λ q. subst (λ (t : Bool). x ≤ cond t y 0) (sym q) h) (λ q. omega arith))

-- A line is written, its claim as it was and its rest no larger, and the members' records: by both together no member's sum grows.
bounds_written : (f : Figures) → Bounds f → (i : ℕ) → i < f.register.count → (k : Line) (rs : List Member)
    → k.claim ≡ (line f.register i).claim → k.rest ≤ (line f.register i).rest → LineFits f k
    → length rs ≡ 25 → ((m : ℕ) → m < 25 → MemberFits (get_or rs m no_member))
    → ((m : ℕ) → m < 25 → nat_abs (get_or rs m no_member).position + (get_or rs m no_member).advances + part (of_member m) weight k
    ≤ nat_abs (position f m) + (member f m).advances + part (of_member m) weight (line f.register i))
    → Bounds (with_records (put_line f i k) rs)
bounds_written f ok i l k rs same less fits long members sums = record {
  shape = record {
    some_member = h.some_member;
    few_members = h.few_members;
    some_security = h.some_security;
    few_securities = h.few_securities;
    some_day = h.some_day;
    last = h.last;
    few_lines = h.few_lines;
    places = length-set f.register.lines i k ∙ h.places;
    records = long;
    rows = h.rows;
    cells = h.cells;
    closes = h.closes;
  };
  lines = λ j b. at_line f h i l k (LineFits e) j (λ q. fits_in f e k refl refl fits) (λ q. fits_in f e _ refl refl (ok.lines j b));
  members = members;
  prices = ok.prices;
  weights = λ m b. added _ _ _ _ _ _ _ (sums m b) (ok.weights m b) (sum_if_with (of_member m) weight f.register i k l place);
  escrow = λ m t. rests _ _ _ _ _ _ (ok.escrow m t) (sum_if_with (due_of m t (today f)) rest_of f.register i k l place)
      (part_le _ _ _ _ (ap (λ (c : Claim). eqb c.key.member m && (eqb c.key.security t && leb c.key.due (today f))) same) less);
}
  where
    e : Figures
    e = with_records (put_line f i k) rs

    h : Shape f
    h = ok.shape

    place : i < length f.register.lines
    place = let a = h.few_lines in let b = h.places in omega arith

    added : (x y S S' w v c : ℕ) → x + v ≤ y + w → y + S ≤ c → S' + w ≡ S + v → x + S' ≤ c
    added x y S S' w v c p q r = omega arith

    rests : (x S S' w v c : ℕ) → x + S ≤ c → S' + w ≡ S + v → v ≤ w → x + S' ≤ c
    rests x S S' w v c p q r = omega arith

-- A member's record is written: its position's size and its advances do not grow together.
bounds_member : (f : Figures) → Bounds f → (m : ℕ) → m < 25 → (r : Member) → MemberFits r
    → nat_abs r.position + r.advances ≤ nat_abs (position f m) + (member f m).advances → Bounds (put_member f m r)
bounds_member f ok m l r fits less = record {
  shape = shape_member f m r ok.shape;
  lines = λ j b. fits_in f (put_member f m r) _ refl refl (ok.lines j b);
  members = λ j b. at_member f ok.shape m l r MemberFits j (λ e. fits) (λ e. ok.members j b);
  prices = ok.prices;
  weights = λ j b.
      at_member f ok.shape m l r (λ (x : Member). nat_abs x.position + x.advances + sum_if (of_member j) weight f.register ≤ most_weight) j
      (λ (e : j ≡ m).
      subst (λ (n : ℕ). nat_abs r.position + r.advances + sum_if (of_member n) weight f.register ≤ most_weight) (sym e)
      (let w = ok.weights m l in omega arith))
      (λ e. ok.weights j b);
  escrow = ok.escrow;
}

-- Escrow shares are written.
bounds_rows : (f : Figures) → Bounds f → (m t n : ℕ)
    → ((j u : ℕ) → in_escrow (put_escrow f m t n) j u + sum_if (due_of j u (today f)) rest_of f.register ≤ today f * most_due)
    → Bounds (put_escrow f m t n)
bounds_rows f ok m t n sums = record {
  shape = shape_escrow f m t n ok.shape;
  lines = λ j b. fits_in f (put_escrow f m t n) _ refl refl (ok.lines j b);
  members = ok.members;
  prices = ok.prices;
  weights = ok.weights;
  escrow = sums;
}

bounds_escrow : (f : Figures) → Bounds f → (m t n : ℕ) → m < 25 → t < 17 → n ≤ in_escrow f m t → Bounds (put_escrow f m t n)
bounds_escrow f ok m t n l k less =
    bounds_rows f ok m t n (λ j u.
    at_escrow f ok.shape m t n l k (λ (x : ℕ). x + sum_if (due_of j u (today f)) rest_of f.register ≤ today f * most_due) j u
    (λ (p : j ≡ m) (q : u ≡ t).
    subst (λ (y : ℕ). n + sum_if (due_of y u (today f)) rest_of f.register ≤ today f * most_due) (sym p)
    (subst (λ (y : ℕ). n + sum_if (due_of m y (today f)) rest_of f.register ≤ today f * most_due) (sym q)
    (lower _ _ _ _ less (ok.escrow m t))))
    (ok.escrow j u))
  where
    lower : (a b S c : ℕ) → a ≤ b → b + S ≤ c → a + S ≤ c
    lower a b S c p q = omega arith

-- A line with the claim of another is its member's alone.
part_own : (w : Line → ℕ) (l k : Line) → k.claim ≡ l.claim → part (of_member l.claim.key.member) w k ≡ w k
part_own w l k same = cond-true _ _ 0 (ap (λ (c : Claim). eqb c.key.member l.claim.key.member) same ∙ eq-eqb l.claim.key.member _ refl)

part_other : (w : Line → ℕ) (l k : Line) → k.claim ≡ l.claim → (m : ℕ) → (m ≡ l.claim.key.member → ⊥) → part (of_member m) w k ≡ 0
part_other w l k same m e = cond-false _ _ 0 (ap (λ (c : Claim). eqb c.key.member m) same ∙ ne_eqb l.claim.key.member m (λ q. e (sym q)))

refitted : (r : Member) (z : ℤ) (n : ℕ) → MemberFits r → MemberFits (at_advances (at_position r z) n)
refitted r z n h = record { charges = h.charges; shares = h.shares; cash = h.cash; requirement = h.requirement; owed = h.owed; late = h.late }

-- A line is written and its member's position: the line gives up at least what the position's size gains.
bounds_moved : (f : Figures) → Bounds f → (i : ℕ) → i < f.register.count → (k : Line) (z : ℤ)
    → k.claim ≡ (line f.register i).claim → k.rest ≤ (line f.register i).rest → LineFits f k
    → nat_abs z + weight k ≤ nat_abs (position f (line f.register i).claim.key.member) + weight (line f.register i)
    → Bounds (moved_position (put_line f i k) (line f.register i).claim.key.member z)
bounds_moved f ok i l k z same less fits sums =
    bounds_written f ok i l k (set f.records m (at_position (member f m) z)) same less fits
    (length-set f.records m (at_position (member f m) z) ∙ ok.shape.records)
    (λ j b. at_member f ok.shape m bound _ MemberFits j (λ e. refitted (member f m) z (member f m).advances (ok.members m bound)) (λ e. ok.members j b))
    (λ j b. at_member f ok.shape m bound _ (NoMore j) j
    (λ (e : j ≡ m). subst (λ (n : ℕ). NoMore n (at_position (member f m) z)) (sym e) mine)
    (λ (e : j ≡ m → ⊥). let a = part_other weight (line f.register i) k same j e in omega arith))
  where
    m : ℕ
    m = (line f.register i).claim.key.member

    bound : m < 25
    bound = let a = (ok.lines i l).known.member_known in let b = ok.shape.few_members in omega arith

    NoMore : ℕ → Member → Type 0
    NoMore n r =
        nat_abs r.position + r.advances + part (of_member n) weight k
        ≤ nat_abs (position f n) + (member f n).advances + part (of_member n) weight (line f.register i)

    mine : NoMore m (at_position (member f m) z)
    mine = let a = part_own weight (line f.register i) k same in let b = part_own weight (line f.register i) (line f.register i) refl in omega arith

-- A line with another difference, rest and deliveries.
abbrev changed : Line → ℤ → ℕ → ℕ → Line
changed l z r n = record {
  claim = l.claim;
  money = l.money;
  highest = l.highest;
  lowest = l.lowest;
  price = l.price;
  difference = z;
  rest = r;
  delivered = n;
}

fits_changed : (f : Figures) (l : Line) (z : ℤ) (r n : ℕ) → LineFits f l → (l.price ≡ 0 → z ≡ pos 0) → nat_abs z ≤ nat_abs l.difference
    → r + n ≤ l.rest + l.delivered → LineFits f (changed l z r n)
fits_changed f l z r n h plain small less = record {
  known = known_in f f l _ refl (omega arith) refl h.known;
  quantity = h.quantity;
  money = h.money;
  order = h.order;
  highest = h.highest;
  lowest = h.lowest;
  price = h.price;
  priced = h.priced;
  unpriced = h.unpriced;
  plain = plain;
  difference = let a = h.difference in omega arith;
  rest = let a = h.rest in omega arith;
}

-- The sizes of whole numbers.
size_sum : (a b : ℤ) → nat_abs (a +ℤ b) ≤ nat_abs a + nat_abs b
size_sum a b = omega (arith, ints)

pub size_difference : (a b : ℤ) → nat_abs (a -ℤ b) ≤ nat_abs a + nat_abs b
size_difference a b = omega (arith, ints)

size_negated : (n : ℕ) → nat_abs (neg_ℤ (pos n)) ≡ n
size_negated n = omega (arith, ints)

pub size_product : (a b : ℤ) → nat_abs (a *ℤ b) ≡ nat_abs a * nat_abs b
size_product (pos a) (pos b) = refl
size_product (pos a) (negsuc b) = size_negated (a * suc b)
size_product (negsuc a) (pos b) = size_negated (suc a * b)
size_product (negsuc a) (negsuc b) = refl

-- A line's rest at a change of price from its own to another, both within a bound.
size_at_change : (l : Line) (c most : ℕ) → c ≤ most → l.price ≤ most → nat_abs (signed_rest l *ℤ (pos c -ℤ pos l.price)) ≤ l.rest * most
size_at_change l c most h k =
    let a = size_product (signed_rest l) (pos c -ℤ pos l.price) in
    let b : nat_abs (signed_rest l) ≡ l.rest
    = cond_both (receives l) (neg_ℤ (pos l.rest)) (pos l.rest) (λ (z : ℤ). nat_abs z ≡ l.rest) (λ e. size_negated l.rest) (λ e. refl) in
    let d : nat_abs (pos c -ℤ pos l.price) ≤ most = omega (arith, ints) in
    let e = mul-le-mul_left l.rest d in
    subst (λ (n : ℕ). n ≤ l.rest * most) (sym (a ∙ ap (λ (n : ℕ). n * nat_abs (pos c -ℤ pos l.price)) b)) e

-- Acts on a line that is due by today: it has a settlement price.
module _ (f : Figures) (ok : Bounds f) (i : ℕ) (here : i < f.register.count) (due : (line f.register i).claim.key.due ≤ today f) where
  abbrev old : Line
  old = line f.register i

  abbrev party : ℕ
  party = old.claim.key.member

  abbrev asset : ℕ
  asset = old.claim.key.security

  fits : LineFits f old
  fits = ok.lines i here

  -- The position's size gains at most y, and the line gives up as much.
  bounds_line : (z : ℤ) (r n : ℕ) (p : ℤ) (y : ℕ) → LineFits f (changed old z r n) → r ≤ old.rest
      → nat_abs p ≤ nat_abs (position f party) + y → nat_abs z + r * most_compensation + y ≤ nat_abs old.difference + old.rest * most_compensation
      → Bounds (moved_position (put_line f i (changed old z r n)) party p)
  bounds_line z r n p y h less gain sums =
      let some : 0 < old.price = fits.priced (omega arith) in
      let a = weight_priced (changed old z r n) some in
      let b = weight_priced old some in
      bounds_moved f ok i here (changed old z r n) p refl less h (omega arith)

  bounds_settle : (x : ℕ) → Bounds (noted f (settle i) x)
  bounds_settle x =
      bounds_line (pos 0) old.rest old.delivered _ (nat_abs old.difference)
      (fits_changed f old (pos 0) _ _ fits (λ e. refl) (omega arith) (omega arith)) (omega arith)
      (size_difference (position f party) old.difference) (omega arith)

  -- Some x of the rest go, at the settlement price.
  bounds_less : (x n : ℕ) (p : ℤ) → x ≤ old.rest → n ≤ old.delivered + x → nat_abs p ≤ nat_abs (position f party) + x * old.price
      → Bounds (moved_position (put_line f i (changed old old.difference (old.rest - x) n)) party p)
  bounds_less x n p l less gain =
      bounds_line old.difference (old.rest - x) n p (x * old.price)
      (fits_changed f old old.difference _ n fits fits.plain (omega arith) (omega arith)) (omega arith) gain
      (let a : x * old.price ≤ x * most_price = mul-le-mul_left x fits.price in omega arith)

  bounds_give : (x : ℕ) → x ≤ old.rest → Bounds (noted f (give i) x)
  bounds_give x l = bounds_less x (old.delivered + x) _ l (omega arith) (size_difference (position f party) (pos (x * old.price)))

  pub bounds_compensate : (c x : ℕ) → c ≤ most_compensation → Bounds (noted f (compensate i c) x)
  bounds_compensate c x l =
      bounds_line old.difference (old.rest - old.rest) old.delivered _ (old.rest * most_compensation)
      (fits_changed f old old.difference _ old.delivered fits fits.plain (omega arith) (omega arith)) (omega arith)
      (let a = size_at_change old c most_compensation l (let q = fits.price in omega arith) in
      let b = size_sum (position f party) (compensation_due old c) in omega arith)
      (omega arith)

  party_below : party < 25
  party_below = let a = fits.known.member_known in let b = ok.shape.few_members in omega arith

  asset_below : asset < 17
  asset_below = let a = fits.known.security_known in let b = ok.shape.few_securities in omega arith

  bounds_give_escrow : (x : ℕ) → x ≤ old.rest → Bounds (noted f (give_escrow i) x)
  bounds_give_escrow x l = bounds_escrow (noted f (give i) x) (bounds_give x l) _ _ _ party_below asset_below (omega arith)

  -- What goes into escrow is due no more.
  rests_served : (x : ℕ) → x ≤ old.rest → (m t : ℕ) → m ≡ party → t ≡ asset
      → sum_if (due_of m t (today f)) rest_of (with_line f.register i (line_served old x)) + x ≡ sum_if (due_of m t (today f)) rest_of f.register
  rests_served x l m t em et =
      let is : due_of m t (today f) old ≡ true = and_from _ _ (eq-eqb _ m (sym em)) (and_from _ _ (eq-eqb _ t (sym et)) (le-leb _ _ due)) in
      let a : part (due_of m t (today f)) rest_of old ≡ old.rest = cond-true _ _ 0 is in
      let b : part (due_of m t (today f)) rest_of (line_served old x) ≡ old.rest - x = cond-true _ _ 0 is in
      let place : i < length f.register.lines = let a = ok.shape.few_lines in let b = ok.shape.places in omega arith in
      let c = sum_if_with (due_of m t (today f)) rest_of f.register i (line_served old x) here place in
      omega arith

  bounds_serve : (x : ℕ) → x ≤ old.rest → Bounds (noted f (serve i) x)
  bounds_serve x l =
      let g : Register = with_line f.register i (line_served old x) in
      let w = bounds_less x old.delivered (position f party +ℤ pos (x * old.price)) l (omega arith) (size_sum (position f party) (pos (x * old.price))) in
      bounds_rows _ w party asset (in_escrow f party asset + x) (λ j u.
      at_escrow _ w.shape party asset (in_escrow f party asset + x) party_below asset_below
      (λ (y : ℕ). y + sum_if (due_of j u (today f)) rest_of g ≤ today f * most_due) j u
      (λ (p : j ≡ party) (q : u ≡ asset).
      let c : in_escrow f j u ≡ in_escrow f party asset = ap (λ y. in_escrow f y u) p ∙ ap (λ y. in_escrow f party y) q in
      moved _ _ _ _ _ _ (rests_served x l j u p q) (ok.escrow j u) c)
      (w.escrow j u))
    where
      moved : (S' S a b y c : ℕ) → S' + y ≡ S → a + S ≤ c → a ≡ b → b + y + S' ≤ c
      moved S' S a b y c p q r = omega arith

-- A member's record after a payment, and the sizes of its numbers.
paid : (r : Member) (x : ℕ) → MemberFits r → MemberFits (paid_more r x)
paid r x h = record { charges = h.charges; shares = h.shares; cash = h.cash; requirement = h.requirement; owed = h.owed; late = omega arith }

size_paid : (z : ℤ) (x : ℕ) → x ≤ above z → nat_abs (z -ℤ pos x) + x ≡ nat_abs z
size_paid (pos n) x l = omega (arith, ints)
size_paid (negsuc n) x l = omega (arith, ints)

size_paid_out : (z : ℤ) (x : ℕ) → x ≤ below z → nat_abs (z +ℤ pos x) ≤ nat_abs z
size_paid_out (pos n) x l = omega (arith, ints)
size_paid_out (negsuc n) x l = omega (arith, ints)

above_size : (z : ℤ) → above z ≤ nat_abs z
above_size (pos n) = omega arith
above_size (negsuc n) = omega arith

-- What a line would cost the house is no more than it weighs, and so over a member's lines.
size_exposure : (f : Figures) → Bounds f → (i : ℕ) → i < f.register.count → nat_abs (exposure f (line f.register i)) ≤ weight (line f.register i)
size_exposure f ok i l =
    let k = line f.register i in
    let h = ok.lines i l in
    let a = size_at_change k (close f k.claim.key.security) most_price (ok.prices k.claim.key.security) h.price in
    let b = size_difference (signed_rest k *ℤ (pos (close f k.claim.key.security) -ℤ pos k.price)) k.difference in
    let c = h.rest in
    let d = h.quantity in
    let e = h.difference in
    cond_both (eqb k.price 0) full_weight (nat_abs k.difference + k.rest * most_compensation) (λ (n : ℕ). nat_abs (exposure f k) ≤ n)
    (λ q. omega arith) (λ q. omega arith)

required_most : (f : Figures) → Bounds f → (m : ℕ) → nat_abs (sum_z_if (of_member m) (exposure f) f.register) ≤ sum_if (of_member m) weight f.register
required_most f ok m =
    size_of_sum f.register.count _ _ (λ i b. parts (of_member m (line f.register i)) _ _ (size_exposure f ok i b))
  where
    size_of_sum : (n : ℕ) (z : ℕ → ℤ) (w : ℕ → ℕ) → ((k : ℕ) → k < n → nat_abs (z k) ≤ w k) → nat_abs (sum_z n z) ≤ sum_to n w
    size_of_sum zero z w h = omega arith
    size_of_sum (suc n) z w h =
        let a = size_of_sum n z w (λ k b. h k (omega arith)) in let b = h n (omega arith) in let c = size_sum (sum_z n z) (z n) in omega arith

    parts : (b : Bool) (z : ℤ) (w : ℕ) → nat_abs z ≤ w → nat_abs (cond b z (pos 0)) ≤ cond b w 0
    parts true z w h = h
    parts false z w h = omega arith

-- Acts on one member.
module _ (f : Figures) (ok : Bounds f) (m : ℕ) (l : m < 25) where
  bounds_pay : (from : Source) (x : ℕ) → x ≤ above (position f m) → Bounds (noted f (pay m from) x)
  bounds_pay own x k =
      bounds_member f ok m l _ (paid (at_position (member f m) (position f m -ℤ pos x)) x (refitted (member f m) _ (member f m).advances (ok.members m l)))
      (let a = size_paid (position f m) x k in omega arith)
  bounds_pay from_collateral x k =
      bounds_member f ok m l _ (refitted (member f m) _ (member f m).advances (ok.members m l)) (let a = size_paid (position f m) x k in omega arith)
  bounds_pay from_contribution x k =
      bounds_member f ok m l _ (refitted (member f m) _ (member f m).advances (ok.members m l)) (let a = size_paid (position f m) x k in omega arith)
  bounds_pay from_reserve x k =
      bounds_member f ok m l _ (refitted (member f m) _ ((member f m).advances + x) (ok.members m l)) (let a = size_paid (position f m) x k in omega arith)

  bounds_pay_out : (n x : ℕ) → x ≤ below (position f m) → Bounds (noted f (pay_out m n) x)
  bounds_pay_out n x k =
      bounds_member f ok m l _ (refitted (member f m) _ (member f m).advances (ok.members m l)) (let a = size_paid_out (position f m) x k in omega arith)

  bounds_repay : (x : ℕ) → Bounds (noted f (repay m) x)
  bounds_repay x =
      bounds_member f ok m l _ (paid (at_advances (member f m) ((member f m).advances - x)) x (refitted (member f m) (position f m) _ (ok.members m l))) (omega arith)

  bounds_pay_charges : (x : ℕ) → Bounds (noted f (pay_charges m) x)
  bounds_pay_charges x =
      let h = ok.members m l in
      bounds_member f ok m l _
      (record { charges = let a = h.charges in omega arith; shares = h.shares; cash = h.cash; requirement = h.requirement; owed = h.owed; late = h.late })
      (omega arith)

  bounds_mark : (x : ℕ) → Bounds (noted f (mark m) x)
  bounds_mark x =
      let h = ok.members m l in
      bounds_member f ok m l _
      (record {
        charges = h.charges;
        shares = h.shares;
        cash = h.cash;
        requirement = h.requirement;
        owed = let a = ok.weights m l in let b = above_size (position f m) in omega arith;
        late = omega arith;
      })
      (omega arith)

  pub bounds_require : (x : ℕ) → Bounds (noted f (require m) x)
  bounds_require x =
      let h = ok.members m l in
      let a = above_size (sum_z_if (of_member m) (exposure f) f.register) in
      let b = required_most f ok m in
      let c = ok.weights m l in
      bounds_member f ok m l _
      (record { charges = h.charges; shares = h.shares; cash = h.cash; requirement = omega arith; owed = h.owed; late = h.late })
      (omega arith)

  bounds_charge : (x : ℕ) → Bounds (noted f (charge m) x)
  bounds_charge x = record {
    shape = shape_noted f (charge m) x ok.shape;
    lines = λ j b. fits_in f (noted f (charge m) x) _ refl refl (ok.lines j b);
    members = done.members;
    prices = done.prices;
    weights = done.weights;
    escrow = done.escrow;
  }
    where
      grown : (b : Bool) (n : ℕ) → cond b (min n most_growth) 0 ≤ most_growth
      grown true n = omega arith
      grown false n = omega arith

      done : Bounds (put_member f m (charged_record f m))
      done =
          let h = ok.members m l in
          bounds_member f ok m l (charged_record f m)
          (record { charges = omega arith; shares = grown _ _; cash = grown _ _; requirement = h.requirement; owed = h.owed; late = h.late })
          (omega arith)

bounds_mark_line : (f : Figures) → Bounds f → (i x : ℕ) → i < f.register.count → Bounds (noted f (mark_line i) x)
bounds_mark_line f ok i x l =
    bounds_written f ok i l (line_marked (line f.register i)) f.records refl (omega arith)
    (fits_changed f (line f.register i) (line f.register i).difference _ 0 (ok.lines i l) (ok.lines i l).plain (omega arith) (omega arith))
    ok.shape.records ok.members (λ m b. omega arith)

member_within : {f : Figures} {m : ℕ} → Shape f → MemberOf f m → m < 25
member_within h o = let a = o.1 in let b = h.few_members in omega arith

-- Every act of noon and two keeps the bounds.
pub bounds_act : (s : State) (a : Act) → Shape s.figures → OfRun s.figures a → Bounds s.figures → Bounds (after_act s a).figures
bounds_act s (settle i) h o ok = bounds_settle s.figures ok i o.0 (let a = o.1 in omega arith) 0
bounds_act s (give i) h o ok = bounds_give s.figures ok i o.0 (leb-true _ _ (and_parts _ _ o.1).1) _ (omega arith)
bounds_act s (give_escrow i) h o ok = bounds_give_escrow s.figures ok i o.0 (leb-true _ _ (and_parts _ _ o.1).1) _ (omega arith)
bounds_act s (serve i) h o ok = bounds_serve s.figures ok i o.0 (leb-true _ _ (and_parts _ _ o.1).1) _ (omega arith)
bounds_act s (pay m from) h o ok = bounds_pay s.figures ok m (member_within h o) from _ (omega arith)
bounds_act s (pay_out m n) h o ok = bounds_pay_out s.figures ok m (member_within h o) n _ (omega arith)
bounds_act s (repay m) h o ok = bounds_repay s.figures ok m (member_within h o) _
bounds_act s (pay_charges m) h o ok = bounds_pay_charges s.figures ok m (member_within h o) _
bounds_act s (pass m t) h o ok =
    bounds_escrow s.figures ok m t _ (member_within h o.0) (let a = o.1.1 in let b = h.few_securities in omega arith) (omega arith)
bounds_act s (mark_line i) h o ok = bounds_mark_line s.figures ok i 0 o.0
bounds_act s (mark m) h o ok = bounds_mark s.figures ok m (member_within h o) 0
bounds_act s (charge m) h o ok = bounds_charge s.figures ok m (member_within h o) 0
bounds_act s (compensate i c) h o ok = absurd o
bounds_act s (close_line i) h o ok = absurd o
bounds_act s (require m) h o ok = absurd o
