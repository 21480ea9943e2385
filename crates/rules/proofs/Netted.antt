-- Netting: what filing a line does to the register, and that a trade leaves a house as even as it was.
use Rattle.std.proofs.Common.{◌≡◌, ℕ, zero, suc, ◌*◌, ◌<◌, ◌≤◌, Bool, true, false, cond, not, ◌&&◌, ◌||◌, eqb, ltb, ◌⊎◌, length, get_or, set, ℤ, pos, ◌+ℤ◌, neg_ℤ, nat_abs, sym, refl, ap, ◌∙◌, subst, inl, inr, ⊎_elim, arith, length-set}
use Rattle.std.proofs.lemmas.Int.{ints}
use Rattle.std.proofs.lemmas.Bool.Decides.{nat_tests}
use Rattle.std.proofs.lemmas.Bool.{cases_eq, eq-eqb, ne_eqb, eqb-true, ltb-true, ltb-false, both_ways, and_parts, or_parts, cond-true, cond-false, cond_both}
use Rattle.rank.specs.declared.key.Key.{Key}
use Rattle.rank.specs.Keys.{flag_number}
use Rattle.rank.specs.Numbers.{key_same}
use Rattle.register.specs.declared.trade.Trade.{Trade}
use Rattle.register.specs.declared.line.Line.{Line}
use Rattle.register.specs.declared.Register.{Register}
use Rattle.rules.specs.declared.figures.Figures.{Figures}
use Rattle.register.specs.Limits.{register_places}
use Rattle.book.specs.Faults.{from_one_to}
use Rattle.rules.specs.State.{State, today, with_register}
use Rattle.register.specs.Lines.{no_line, line, key, in_group, sum_z, sum_z_if, blank}
use Rattle.register.specs.Netting.{due_day, same_key, place_below, place_of, known, line_of, bought, sold, filed, buyer_key, seller_key, buyer_filed}
use Rattle.rules.specs.Events.{no_such_member, no_such_security, register_traded, traded}
use Rattle.rules.specs.Fit.{Shape, Known}
use Rattle.rules.proofs.Written.{get_or_with}
use Rattle.rules.proofs.Sums.{sum_z_same, sum_z_if_with, part_z}
use Rattle.rules.proofs.Invariants.{SoundLines, settled_day, Rested}
use Rattle.rules.proofs.Groups.{none_if, known_like, sided, sided_whole, EvenLines, even_rested, rested_even}

-- Keys that pass the test are one key, and a key passes it with itself.
key_of_same : (j k : Key) → same_key j k ≡ true → j ≡ k
key_of_same j k e =
    let a = and_parts (eqb j.due k.due) _ e in
    let b = and_parts (eqb j.security k.security) _ a.1 in
    let c = and_parts (eqb j.member k.member) _ b.1 in
    key_same j k (eqb-true _ _ a.0) (eqb-true _ _ b.0) (eqb-true _ _ c.0) (eqb-true _ _ c.1)

same_itself : (k : Key) → same_key k k ≡ true
same_itself k = rw (eq-eqb k.due k.due refl, eq-eqb k.security k.security refl, eq-eqb k.member k.member refl, eq-eqb (flag_number k.flag) (flag_number k.flag) refl)

-- The first place with a key: within the count; if below it, it has the key; if not, no place has.
place_within : (g : Register) (k : Key) (n : ℕ) → place_below g k n ≤ n
place_within g k zero = omega arith
place_within g k (suc n) =
    let h = place_within g k n in
    cond_both (ltb (place_below g k n) n) (place_below g k n) (cond (same_key (key g n) k) n (suc n)) (λ x. x ≤ suc n)
    (λ e. omega arith) (λ e. cond_both (same_key (key g n) k) n (suc n) (λ x. x ≤ suc n) (λ d. omega arith) (λ d. omega arith))

place_has : (g : Register) (k : Key) (n : ℕ) → place_below g k n < n → same_key (key g (place_below g k n)) k ≡ true
place_has g k zero = λ l. absurd (omega arith)
place_has g k (suc n) =
    cond_both (ltb (place_below g k n) n) (place_below g k n) (cond (same_key (key g n) k) n (suc n)) (λ x. x < suc n → same_key (key g x) k ≡ true)
    (λ e l. place_has g k n (ltb-true (place_below g k n) n e))
    (λ e. cond_both (same_key (key g n) k) n (suc n) (λ x. x < suc n → same_key (key g x) k ≡ true) (λ d l. d) (λ d l. absurd (omega arith)))

place_none : (g : Register) (k : Key) (n : ℕ) → n ≤ place_below g k n → (i : ℕ) → i < n → same_key (key g i) k ≡ false
place_none g k zero = λ h i l. absurd (omega arith)
place_none g k (suc n) =
    cond_both (ltb (place_below g k n) n) (place_below g k n) (cond (same_key (key g n) k) n (suc n)) (λ x. suc n ≤ x → (i : ℕ) → i < suc n → same_key (key g i) k ≡ false)
    (λ e h i l. let b = ltb-true (place_below g k n) n e in absurd (omega arith))
    (λ e. cond_both (same_key (key g n) k) n (suc n) (λ x. suc n ≤ x → (i : ℕ) → i < suc n → same_key (key g i) k ≡ false)
    (λ d h i l. absurd (omega arith))
    (λ d h i l.
    let b = ltb-false (place_below g k n) n e in
    ⊎_elim (λ (q : i ≡ n). ap (λ j. same_key (key g j) k) q ∙ d) (λ (q : i ≡ n → ⊥). place_none g k n b i (omega arith)) (cases_eq i n)))

-- The place of a key that is known, or of one that is not.
place_known : (g : Register) (k : Key) → known g k ≡ true → (place_of g k < g.count) × (key g (place_of g k) ≡ k)
place_known g k e =
    let l = ltb-true (place_of g k) g.count e in (l, key_of_same (key g (place_of g k)) k (place_has g k g.count l))

place_unknown : (g : Register) (k : Key) → known g k ≡ false → (place_of g k ≡ g.count) × ((i : ℕ) → i < g.count → key g i ≡ k → ⊥)
place_unknown g k e =
    let l = ltb-false (place_of g k) g.count e in
    let h = place_within g k g.count in
    (omega arith, λ i m q. both_ways (same_key (key g i) k) (place_none g k g.count l i m) (ap (λ (j : Key). same_key j k) q ∙ same_itself k))

-- What holds of the line that has the key, or of a line without any trade, holds of the key's line.
line_of_all : (g : Register) (k : Key) (Q : Line → Type 0) → ((i : ℕ) → i < g.count → key g i ≡ k → Q (line g i)) → Q (blank k) → Q (line_of g k)
line_of_all g k Q here there =
    cond_both (known g k) (line g (place_of g k)) (blank k) Q (λ e. let p = place_known g k e in here (place_of g k) p.0 p.1) (λ e. there)

-- A line filed under a key.
module _ (g : Register) (k : Key) (n : Line) where
  count_filed : g.count ≤ (filed g k n).count
  count_filed = cond_both (known g k) g.count (suc g.count) (λ c. g.count ≤ c) (λ e. omega arith) (λ e. omega arith)

  place_fits : (filed g k n).count ≤ register_places → length g.lines ≡ register_places → place_of g k < length g.lines
  place_fits h e = go (known g k) refl h
    where
      go : (b : Bool) → known g k ≡ b → cond b g.count (suc g.count) ≤ register_places → place_of g k < length g.lines
      go true q l = let p = (place_known g k q).0 in omega arith
      go false q l = let p = (place_unknown g k q).0 in omega arith

  line_filed : place_of g k < length g.lines → (i : ℕ) → line (filed g k n) i ≡ cond (eqb i (place_of g k)) n (line g i)
  line_filed h i = get_or_with g.lines (place_of g k) n no_line h i

  -- A sum over lines that pass a test: the key's line gives way to the new one.
  sum_filed : (p : Line → Bool) (z : Line → ℤ) → place_of g k < length g.lines → part_z p z (blank k) ≡ pos 0
      → sum_z_if p z (filed g k n) +ℤ part_z p z (line_of g k) ≡ sum_z_if p z g +ℤ part_z p z n
  sum_filed p z h none = go (known g k) refl
    where
      go : (b : Bool) → known g k ≡ b
          → sum_z_if p z (record { count = cond b g.count (suc g.count); lines = set g.lines (place_of g k) n }) +ℤ part_z p z (cond b (line g (place_of g k)) (blank k))
          ≡ sum_z_if p z g +ℤ part_z p z n
      go true e = sum_z_if_with p z g (place_of g k) n (place_known g k e).0 h
      go false e =
          let at = (place_unknown g k e).0 in
          let old : sum_z g.count (λ i. part_z p z (get_or (set g.lines (place_of g k) n) i no_line)) ≡ sum_z_if p z g
          = sum_z_same g.count _ _ (λ i l. ap (part_z p z) (line_filed h i ∙ cond-false (eqb i (place_of g k)) n (line g i) (ne_eqb i (place_of g k) (λ q. omega arith)))) in
          let last : part_z p z (get_or (set g.lines (place_of g k) n) g.count no_line) ≡ part_z p z n
          = ap (part_z p z) (line_filed h g.count ∙ cond-true (eqb g.count (place_of g k)) n (line g g.count) (eq-eqb g.count (place_of g k) (sym at))) in
          add _ _ _ _ _ old last none
        where
          add : (S s a b c : ℤ) → S ≡ s → a ≡ b → c ≡ pos 0 → (S +ℤ a) +ℤ c ≡ s +ℤ b
          add S s a b c x y w = omega (arith, ints)

-- What one side of a trade keeps by itself: all but that rests and money of a due day and security add to 0.
record StepLines (f : Figures) : Type 0 where
  shape : Shape f
  lines : SoundLines f
  within : (i : ℕ) → i < f.register.count → (line f.register i).rest ≤ nat_abs (line f.register i).claim.quantity
  level : (d t : ℕ) → sum_z_if (in_group d t) (λ l. l.difference) f.register ≡ pos 0
  whole : (i : ℕ) → i < f.register.count → today f < (key f.register i).due
      → (line f.register i).rest ≡ nat_abs (line f.register i).claim.quantity
  unpriced : (i : ℕ) → i < f.register.count → (key f.register i).due ≡ due_day (today f)
      → ((line f.register i).price ≡ 0) × ((line f.register i).difference ≡ pos 0)
  settled : (i : ℕ) → i < f.register.count → (key f.register i).due ≤ settled_day f → (line f.register i).difference ≡ pos 0

-- The line that a side of a trade finds under its key.
record Plain (k : Key) (l : Line) : Type 0 where
  its_key : l.claim.key ≡ k
  price : l.price ≡ 0
  difference : l.difference ≡ pos 0
  rest : l.rest ≡ nat_abs l.claim.quantity

-- A key that a trade of today is filed under.
record OfToday (f : Figures) (k : Key) : Type 0 where
  due : k.due ≡ due_day (today f)
  some_member : 0 < k.member
  member_known : k.member ≤ f.size.members
  some_security : 0 < k.security
  security_known : k.security ≤ f.size.securities

plain_line_of : (f : Figures) (k : Key) → StepLines f → OfToday f k → Plain k (line_of f.register k)
plain_line_of f k s o =
    let due = o.due in
    line_of_all f.register k (Plain k)
    (λ i l e.
    let q : (key f.register i).due ≡ due_day (today f) = ap (λ (j : Key). j.due) e ∙ due in
    let u = s.unpriced i l q in
    record { its_key = e; price = u.0; difference = u.1; rest = s.whole i l (omega arith) })
    (record { its_key = refl; price = refl; difference = refl; rest = refl })

-- A plain line filed under a key of today.
module _ (f : Figures) (k : Key) (n : Line) (s : StepLines f) (o : OfToday f k) (h : Plain k n) (room : (filed f.register k n).count ≤ register_places) where
  abbrev here : Figures
  here = with_register f (filed f.register k n)

  fits : place_of f.register k < length f.register.lines
  fits = place_fits f.register k n room s.shape.places

  -- A place holds the new line, or an old one with another key.
  filed_at : (i : ℕ) → i < here.register.count
      → ((i ≡ place_of f.register k) × (line here.register i ≡ n))
      ⊎ ((i < f.register.count) × (key f.register i ≡ k → ⊥) × (line here.register i ≡ line f.register i))
  filed_at i l =
      ⊎_elim
      (λ (e : i ≡ place_of f.register k). inl (e, line_filed f.register k n fits i ∙ cond-true (eqb i (place_of f.register k)) n (line f.register i) (eq-eqb i _ e)))
      (λ (d : i ≡ place_of f.register k → ⊥).
      let p = other (known f.register k) refl d l in
      inr (p.0, p.1, line_filed f.register k n fits i ∙ cond-false (eqb i (place_of f.register k)) n (line f.register i) (ne_eqb i _ d)))
      (cases_eq i (place_of f.register k))
    where
      other : (b : Bool) → known f.register k ≡ b → (i ≡ place_of f.register k → ⊥) → i < cond b f.register.count (suc f.register.count)
          → (i < f.register.count) × (key f.register i ≡ k → ⊥)
      other true e d l = let p = place_known f.register k e in (l, λ q. d (s.lines.differ i (place_of f.register k) l p.0 (q ∙ sym p.1)))
      other false e d l = let p = place_unknown f.register k e in let a = p.0 in let m : i < f.register.count = omega arith in (m, p.1 i m)

  filed_all : (Q : Line → Type 0) → Q n → ((i : ℕ) → i < f.register.count → Q (line f.register i)) → (i : ℕ) → i < here.register.count → Q (line here.register i)
  filed_all Q new old i l =
      ⊎_elim
      (λ (a : (i ≡ place_of f.register k) × (line here.register i ≡ n)). subst Q (sym a.1) new)
      (λ (b : (i < f.register.count) × (key f.register i ≡ k → ⊥) × (line here.register i ≡ line f.register i)). subst Q (sym b.2) (old i b.0))
      (filed_at i l)

  key_new : (i : ℕ) → line here.register i ≡ n → key here.register i ≡ k
  key_new i e = ap (λ (l : Line). l.claim.key) e ∙ h.its_key

  differ_filed : (i j : ℕ) → i < here.register.count → j < here.register.count → key here.register i ≡ key here.register j → i ≡ j
  differ_filed i j l m e =
      ⊎_elim
      (λ (a : (i ≡ place_of f.register k) × (line here.register i ≡ n)).
      ⊎_elim
      (λ (c : (j ≡ place_of f.register k) × (line here.register j ≡ n)). a.0 ∙ sym c.0)
      (λ (c : (j < f.register.count) × (key f.register j ≡ k → ⊥) × (line here.register j ≡ line f.register j)).
      absurd (c.1 (ap (λ (x : Line). x.claim.key) (sym c.2) ∙ (sym e ∙ key_new i a.1))))
      (filed_at j m))
      (λ (b : (i < f.register.count) × (key f.register i ≡ k → ⊥) × (line here.register i ≡ line f.register i)).
      ⊎_elim
      (λ (c : (j ≡ place_of f.register k) × (line here.register j ≡ n)). absurd (b.1 (ap (λ (x : Line). x.claim.key) (sym b.2) ∙ (e ∙ key_new j c.1))))
      (λ (c : (j < f.register.count) × (key f.register j ≡ k → ⊥) × (line here.register j ≡ line f.register j)).
      s.lines.differ i j b.0 c.0 (ap (λ (x : Line). x.claim.key) (sym b.2) ∙ (e ∙ ap (λ (x : Line). x.claim.key) c.2)))
      (filed_at j m))
      (filed_at i l)

  unpriced_filed : (i : ℕ) → i < here.register.count → (key here.register i).due ≡ due_day (today f)
      → ((line here.register i).price ≡ 0) × ((line here.register i).difference ≡ pos 0)
  unpriced_filed = filed_all (λ (l : Line). l.claim.key.due ≡ due_day (today f) → (l.price ≡ 0) × (l.difference ≡ pos 0)) (λ e. (h.price, h.difference)) s.unpriced

  -- A line of another day is an old one.
  one_price_filed : (i j : ℕ) → i < here.register.count → j < here.register.count → (key here.register i).due ≡ (key here.register j).due
      → (key here.register i).security ≡ (key here.register j).security → (line here.register i).price ≡ (line here.register j).price
  one_price_filed i j l m d t =
      ⊎_elim
      (λ (e : (key here.register i).due ≡ due_day (today f)). (unpriced_filed i l e).0 ∙ sym (unpriced_filed j m (sym d ∙ e)).0)
      (λ (ne : (key here.register i).due ≡ due_day (today f) → ⊥).
      let a = old i l ne in
      let b = old j m (λ q. ne (d ∙ q)) in
      ap (λ (x : Line). x.price) a.1
      ∙ (s.lines.one_price i j a.0 b.0
      (ap (λ (x : Line). x.claim.key.due) (sym a.1) ∙ (d ∙ ap (λ (x : Line). x.claim.key.due) b.1))
      (ap (λ (x : Line). x.claim.key.security) (sym a.1) ∙ (t ∙ ap (λ (x : Line). x.claim.key.security) b.1))
      ∙ sym (ap (λ (x : Line). x.price) b.1)))
      (cases_eq (key here.register i).due (due_day (today f)))
    where
      old : (i : ℕ) → i < here.register.count → ((key here.register i).due ≡ due_day (today f) → ⊥) → (i < f.register.count) × (line here.register i ≡ line f.register i)
      old i l ne =
          ⊎_elim
          (λ (a : (i ≡ place_of f.register k) × (line here.register i ≡ n)). absurd (ne (ap (λ (j : Key). j.due) (key_new i a.1) ∙ o.due)))
          (λ (b : (i < f.register.count) × (key f.register i ≡ k → ⊥) × (line here.register i ≡ line f.register i)). (b.0, b.2))
          (filed_at i l)

  known_filed : (i : ℕ) → i < here.register.count → Known here (line here.register i)
  known_filed =
      filed_all (Known here)
      (record {
        some_member = subst (λ (y : Key). 0 < y.member) (sym h.its_key) o.some_member;
        member_known = subst (λ (y : Key). y.member ≤ f.size.members) (sym h.its_key) o.member_known;
        some_security = subst (λ (y : Key). 0 < y.security) (sym h.its_key) o.some_security;
        security_known = subst (λ (y : Key). y.security ≤ f.size.securities) (sym h.its_key) o.security_known;
        due_known = subst (λ (y : Key). y.due ≤ due_day (today f)) (sym h.its_key) (let e = o.due in omega arith);
      })
      (λ i l. known_like f here (line f.register i) (line f.register i) refl (omega arith) refl (s.lines.known i l))

  -- A number that the new line has x more of.
  sum_more : (z : Line → ℤ) (x : ℤ) → z (blank k) ≡ pos 0 → z n ≡ z (line_of f.register k) +ℤ x → (d t : ℕ)
      → sum_z_if (in_group d t) z here.register ≡ sum_z_if (in_group d t) z f.register +ℤ cond (eqb k.due d && eqb k.security t) x (pos 0)
  sum_more z x none more d t =
      add (eqb k.due d && eqb k.security t) _ _ _ _ (z (line_of f.register k))
      (part_of n h.its_key ∙ ap (λ v. cond (eqb k.due d && eqb k.security t) v (pos 0)) more)
      (part_of (line_of f.register k) (plain_line_of f k s o).its_key)
      (sum_filed f.register k n (in_group d t) z fits (none_if (eqb k.due d && eqb k.security t) (z (blank k)) none))
    where
      part_of : (l : Line) → l.claim.key ≡ k → part_z (in_group d t) z l ≡ cond (eqb k.due d && eqb k.security t) (z l) (pos 0)
      part_of l e = ap (λ (j : Key). cond (eqb j.due d && eqb j.security t) (z l) (pos 0)) e

      add : (b : Bool) (S T a c v : ℤ) → c ≡ cond b (v +ℤ x) (pos 0) → a ≡ cond b v (pos 0) → S +ℤ a ≡ T +ℤ c → S ≡ T +ℤ cond b x (pos 0)
      add true S T a c v p q r = omega (arith, ints)
      add false S T a c v p q r = omega (arith, ints)

  shape_filed : Shape here
  shape_filed = let q = s.shape in record {
    some_member = q.some_member;
    few_members = q.few_members;
    some_security = q.some_security;
    few_securities = q.few_securities;
    some_day = q.some_day;
    last = q.last;
    few_lines = room;
    places = length-set f.register.lines (place_of f.register k) n ∙ q.places;
    records = q.records;
    rows = q.rows;
    cells = q.cells;
    closes = q.closes;
  }

  step_filed : StepLines here
  step_filed = record {
    shape = shape_filed;
    lines = record { known = known_filed; differ = differ_filed; one_price = one_price_filed };
    within = filed_all (λ (l : Line). l.rest ≤ nat_abs l.claim.quantity) (let e = h.rest in omega arith) s.within;
    level = λ d t.
        sum_more (λ (l : Line). l.difference) (pos 0) refl (h.difference ∙ sym (plus_none _ (plain_line_of f k s o).difference)) d t
        ∙ still (eqb k.due d && eqb k.security t) _ (s.level d t);
    whole = filed_all (λ (l : Line). today f < l.claim.key.due → l.rest ≡ nat_abs l.claim.quantity) (λ q. h.rest) s.whole;
    unpriced = unpriced_filed;
    settled = filed_all (λ (l : Line). l.claim.key.due ≤ settled_day f → l.difference ≡ pos 0) (λ q. h.difference) s.settled;
  }
    where
      plus_none : (v : ℤ) → v ≡ pos 0 → v +ℤ pos 0 ≡ pos 0
      plus_none v e = omega (arith, ints)

      still : (b : Bool) (v : ℤ) → v ≡ pos 0 → v +ℤ cond b (pos 0) (pos 0) ≡ pos 0
      still true v e = omega (arith, ints)
      still false v e = omega (arith, ints)

  sided_filed : (x : ℤ) → n.claim.quantity ≡ (line_of f.register k).claim.quantity +ℤ x → (d t : ℕ)
      → sum_z_if (in_group d t) sided here.register ≡ sum_z_if (in_group d t) sided f.register +ℤ cond (eqb k.due d && eqb k.security t) x (pos 0)
  sided_filed x e =
      sum_more sided x refl
      (sided_whole n h.rest ∙ (e ∙ ap (λ v. v +ℤ x) (sym (sided_whole (line_of f.register k) (plain_line_of f k s o).rest))))

-- One side of a trade after the other.
cancels : (b : Bool) (S T U v : ℤ) → T ≡ S +ℤ cond b (neg_ℤ v) (pos 0) → U ≡ T +ℤ cond b v (pos 0) → S ≡ pos 0 → U ≡ pos 0
cancels true S T U v p q e = omega (arith, ints)
cancels false S T U v p q e = omega (arith, ints)

-- What is known of an accepted trade.
pub record GoodTrade (f : Figures) (t : Trade) : Type 0 where
  pub buyer : (0 < t.buyer) × (t.buyer ≤ f.size.members)
  pub seller : (0 < t.seller) × (t.seller ≤ f.size.members)
  pub security : (0 < t.security) × (t.security ≤ f.size.securities)
  pub room : (register_traded f t).count ≤ register_places

module _ (f : Figures) (t : Trade) (good : GoodTrade f t) (e : EvenLines f) where
  abbrev due : ℕ
  due = due_day (today f)

  abbrev first_side : Figures
  first_side = with_register f (buyer_filed f.register due t)

  abbrev both_sides : Figures
  both_sides = with_register f (register_traded f t)

  step_before : StepLines f
  step_before = record { shape = e.shape; lines = e.lines; within = e.within; level = e.level; whole = e.whole; unpriced = e.unpriced; settled = e.settled }

  buyer_today : OfToday f (buyer_key due t)
  buyer_today = record {
    due = refl;
    some_member = good.buyer.0;
    member_known = good.buyer.1;
    some_security = good.security.0;
    security_known = good.security.1;
  }

  seller_today : OfToday first_side (seller_key due t)
  seller_today = record {
    due = refl;
    some_member = good.seller.0;
    member_known = good.seller.1;
    some_security = good.security.0;
    security_known = good.security.1;
  }

  abbrev purchase : Line
  purchase = bought (line_of f.register (buyer_key due t)) t.quantity t.price

  abbrev sale : Line
  sale = sold (line_of first_side.register (seller_key due t)) t.quantity t.price

  plain_purchase : Plain (buyer_key due t) purchase
  plain_purchase = let p = plain_line_of f (buyer_key due t) step_before buyer_today in
      record { its_key = p.its_key; price = p.price; difference = p.difference; rest = refl }

  buyer_room : first_side.register.count ≤ register_places
  buyer_room = let a = count_filed first_side.register (seller_key due t) sale in let b = good.room in omega arith

  step_between : StepLines first_side
  step_between = step_filed f (buyer_key due t) purchase step_before buyer_today plain_purchase buyer_room

  plain_sale : Plain (seller_key due t) sale
  plain_sale = let p = plain_line_of first_side (seller_key due t) step_between seller_today in
      record { its_key = p.its_key; price = p.price; difference = p.difference; rest = refl }

  step_after : StepLines both_sides
  step_after = step_filed first_side (seller_key due t) sale step_between seller_today plain_sale good.room

  even_traded : EvenLines both_sides
  even_traded = let s = step_after in record {
    shape = s.shape;
    lines = s.lines;
    within = s.within;
    level = s.level;
    whole = s.whole;
    unpriced = s.unpriced;
    settled = s.settled;
    even = λ d u. cancels (eqb due d && eqb t.security u) _ _ _ (pos t.quantity)
        (sided_filed f (buyer_key due t) purchase step_before buyer_today plain_purchase buyer_room (neg_ℤ (pos t.quantity)) refl d u)
        (sided_filed first_side (seller_key due t) sale step_between seller_today plain_sale good.room (pos t.quantity) refl d u)
        (e.even d u);
    fresh = λ u. cancels (eqb due due && eqb t.security u) _ _ _ (pos (t.quantity * t.price))
        (sum_more f (buyer_key due t) purchase step_before buyer_today plain_purchase buyer_room (λ l. l.money) (neg_ℤ (pos (t.quantity * t.price))) refl refl due u)
        (sum_more first_side (seller_key due t) sale step_between seller_today plain_sale good.room (λ l. l.money) (pos (t.quantity * t.price)) refl refl due u)
        (e.fresh u);
  }

pub rested_traded : (s : State) (t : Trade) → GoodTrade s.figures t → Rested s → Rested (traded s t)
rested_traded s t g h = let e = even_rested s h in
    rested_even (traded s t) (record {
      lines = even_traded s.figures t g e.lines;
      accounts = e.accounts;
      assets = e.assets;
      small = e.small;
      escrowed = e.escrowed;
      empty = e.empty;
      money = e.money;
    })

pub good_trade : (f : Figures) (t : Trade) → (no_such_member f t.buyer || no_such_member f t.seller) ≡ false → no_such_security f t.security ≡ false
    → ltb register_places (register_traded f t).count ≡ false → GoodTrade f t
good_trade f t a b c =
    let p = or_parts (no_such_member f t.buyer) (no_such_member f t.seller) a in
    record {
      buyer = named f.size.members t.buyer p.0;
      seller = named f.size.members t.seller p.1;
      security = named f.size.securities t.security b;
      room = ltb-false register_places (register_traded f t).count c;
    }
  where
    named : (n m : ℕ) → not (from_one_to n m) ≡ false → (0 < m) × (m ≤ n)
    named n m e = (grind (arith, nat_tests), grind (arith, nat_tests))
