-- The bounds of the figures, kept by a trade.
use Rattle.std.proofs.Common.{◌≡◌, ℕ, zero, suc, ◌+◌, ◌*◌, ◌<◌, ◌≤◌, min, max, Bool, true, false, cond, ◌&&◌, eqb, ltb, leb, length, ℤ, pos, nat_abs, sym, refl, ap, ◌∙◌, subst, ⊎_elim, arith, length-set}
use lib.Signed.{lt_z}
use Rattle.std.proofs.lemmas.Bool.{cases_eq, eqb-true, eqb-false, eq-eqb, ne_eqb, lt-ltb, le-ltb, lt-leb, ltb-true, ltb-false, and_parts, and_from, and_right, or_parts, cond-true, cond-false, cond_both}
use Rattle.book.specs.Ledger.{sum_to}
use Rattle.book.proofs.Sums.{sum_same}
use Rattle.rank.specs.declared.key.Key.{Key}
use Rattle.rank.specs.Keys.{flag_number}
use Rattle.rank.specs.Numbers.{key_same}
use Rattle.register.specs.declared.trade.Trade.{Trade}
use Rattle.register.specs.declared.line.Line.{Line}
use Rattle.register.specs.declared.Register.{Register}
use Rattle.rules.specs.declared.figures.Figures.{Figures}
use Rattle.register.specs.Limits.{most_price, register_places}
use Rattle.register.specs.Lines.{no_line, line, key, of_member, rest_of, sum_if, blank}
use Rattle.rules.specs.State.{member, position, in_escrow, today, with_register}
use Rattle.register.specs.Netting.{due_day, same_key, place_below, place_of, known, line_of, order_price, lower_sale, bought, sold, filed, buyer_key, seller_key, buyer_filed, trade_filed, too_large, trade_too_large}
use Rattle.rules.specs.Events.{register_traded, position_too_large}
use Rattle.rules.specs.Fit.{Shape, Known, LineFits, Bounds, weight, full_weight, most_weight, most_due, due_of}
use Rattle.rules.proofs.Written.{get_or_with}
use Rattle.rules.proofs.Sums.{part}
use Rattle.rules.proofs.Acts.{MemberOf, SecurityOf}
use Rattle.rules.proofs.FitActs.{fits_in, weight_most}

-- Equal keys, by the test and as values.
same_keys : (j k : Key) → same_key j k ≡ true → j ≡ k
same_keys j k e =
    let a = and_parts _ _ e in
    let b = and_parts _ _ a.1 in
    let c = and_parts _ _ b.1 in
    key_same j k (eqb-true _ _ a.0) (eqb-true _ _ b.0) (eqb-true _ _ c.0) (eqb-true _ _ c.1)

same_key_self : (k : Key) → same_key k k ≡ true
same_key_self k =
    and_from _ _ (eq-eqb k.due _ refl) (and_from _ _ (eq-eqb k.security _ refl) (and_from _ _ (eq-eqb k.member _ refl) (eq-eqb (flag_number k.flag) _ refl)))

-- The first place of a key.
place_most : (g : Register) (k : Key) (n : ℕ) → place_below g k n ≤ n
place_most g k zero = omega arith
place_most g k (suc n) =
    let a = place_most g k n in
    cond_both (ltb (place_below g k n) n) (place_below g k n) (cond (same_key (key g n) k) n (suc n)) (λ (i : ℕ). i ≤ suc n)
    (λ e. omega arith) (λ e. cond_both (same_key (key g n) k) n (suc n) (λ (i : ℕ). i ≤ suc n) (λ q. omega arith) (λ q. omega arith))

place_found : (g : Register) (k : Key) (n : ℕ) → place_below g k n < n → key g (place_below g k n) ≡ k
place_found g k zero l = absurd (omega arith)
place_found g k (suc n) l =
    cond_both (ltb (place_below g k n) n) (place_below g k n) (cond (same_key (key g n) k) n (suc n)) (λ (i : ℕ). i < suc n → key g i ≡ k)
    (λ e l. place_found g k n (ltb-true _ _ e))
    (λ e. cond_both (same_key (key g n) k) n (suc n) (λ (i : ℕ). i < suc n → key g i ≡ k) (λ q l. same_keys _ _ q) (λ q l. absurd (omega arith))) l

place_same : (e g : Register) (k : Key) (n : ℕ) → ((i : ℕ) → i < n → key e i ≡ key g i) → place_below e k n ≡ place_below g k n
place_same e g k zero h = refl
place_same e g k (suc n) h =
    let a = place_same e g k n (λ i l. h i (omega arith)) in
    ap (λ (i : ℕ). cond (ltb i n) i (cond (same_key (key e n) k) n (suc n))) a
    ∙ ap (λ (j : Key). cond (ltb (place_below g k n) n) (place_below g k n) (cond (same_key j k) n (suc n))) (h n (omega arith))

count_filed : (g : Register) (k : Key) (l : Line) → g.count ≤ (filed g k l).count
count_filed g k l = cond_both (known g k) g.count (suc g.count) (λ (n : ℕ). g.count ≤ n) (λ e. omega arith) (λ e. omega arith)

place_filed : (g : Register) (k : Key) (l : Line) → place_of g k < (filed g k l).count
place_filed g k l =
    let a = place_most g k g.count in
    cond_both (known g k) g.count (suc g.count) (λ (n : ℕ). place_of g k < n) (λ e. ltb-true _ _ e) (λ e. omega arith)

-- A line filed under its key.
module _ (g : Register) (k : Key) (l : Line) (is : l.claim.key ≡ k) (long : place_of g k < length g.lines) where
  line_filed : (i : ℕ) → line (filed g k l) i ≡ cond (eqb i (place_of g k)) l (line g i)
  line_filed i = get_or_with g.lines (place_of g k) l no_line long i

  -- A place of the register is the line's own, or it was one before and stands as it was.
  at_filed : (P : Line → Type 0) (i : ℕ) → i < (filed g k l).count
      → (i ≡ place_of g k → P l) → ((i ≡ place_of g k → ⊥) → i < g.count → P (line g i)) → P (line (filed g k l) i)
  at_filed P i b here there =
      subst P (sym (line_filed i))
      (cond_both (eqb i (place_of g k)) l (line g i) P (λ e. here (eqb-true _ _ e)) (λ e. there (eqb-false _ _ e) (before (eqb-false _ _ e) b)))
    where
      before : (i ≡ place_of g k → ⊥) → i < (filed g k l).count → i < g.count
      before d =
          let a = place_most g k g.count in
          cond_both (known g k) g.count (suc g.count) (λ (n : ℕ). i < n → i < g.count) (λ e q. q) (λ e q. let c = ltb-false _ _ e in apart d a c q)
        where
          apart : {i p n : ℕ} → (i ≡ p → ⊥) → p ≤ n → n ≤ p → i < suc n → i < n
          apart d a c q = omega arith

  key_filed : (i : ℕ) → i < g.count → key (filed g k l) i ≡ key g i
  key_filed i b =
      ap (λ (x : Line). x.claim.key) (line_filed i)
      ∙ cond_both (eqb i (place_of g k)) l (line g i) (λ (x : Line). x.claim.key ≡ key g i)
      (λ e. is ∙ (sym (place_found g k g.count (subst (λ (n : ℕ). n < g.count) (eqb-true _ _ e) b)) ∙ ap (key g) (sym (eqb-true _ _ e)))) (λ e. refl)

  -- The key's place stays, and so does the place of every key that had one.
  place_other : (j : Key) → place_of g j < g.count → place_of (filed g k l) j ≡ place_of g j
  place_other j b =
      cond_both (known g k) g.count (suc g.count) (λ (n : ℕ). place_below (filed g k l) j n ≡ place_of g j)
      (λ e. same) (λ e. cond-true _ _ _ (lt-ltb _ _ (subst (λ (n : ℕ). n < g.count) (sym same) b)) ∙ same)
    where
      same : place_below (filed g k l) j g.count ≡ place_of g j
      same = place_same (filed g k l) g j g.count key_filed

  place_own : place_of (filed g k l) k ≡ place_of g k
  place_own =
      cond_both (known g k) g.count (suc g.count) (λ (n : ℕ). place_below (filed g k l) k n ≡ place_of g k)
      (λ e. same) (λ e. new (ltb-false _ _ e))
    where
      same : place_below (filed g k l) k g.count ≡ place_of g k
      same = place_same (filed g k l) g k g.count key_filed

      new : g.count ≤ place_of g k → place_below (filed g k l) k (suc g.count) ≡ place_of g k
      new b =
          let a = place_most g k g.count in
          let c : place_of g k ≡ g.count = omega arith in
          let s : place_below (filed g k l) k g.count ≡ place_of g k = same in
          cond-false (ltb (place_below (filed g k l) k g.count) g.count) _ _ (le-ltb _ _ (omega arith))
          ∙ (cond-true _ _ _ (subst (λ (j : Key). same_key j k ≡ true) (sym (key_there c)) (same_key_self k)) ∙ sym c)
        where
          key_there : place_of g k ≡ g.count → key (filed g k l) g.count ≡ k
          key_there c =
              ap (λ (x : Line). x.claim.key) (line_filed g.count ∙ cond-true _ _ _ (eq-eqb _ _ (sym c))) ∙ is

  line_own : line_of (filed g k l) k ≡ l
  line_own =
      cond-true _ _ _ (lt-ltb _ _ (subst (λ (n : ℕ). n < (filed g k l).count) (sym place_own) (place_filed g k l)))
      ∙ (ap (line (filed g k l)) place_own ∙ (line_filed (place_of g k) ∙ cond-true _ _ _ (eq-eqb (place_of g k) _ refl)))

  -- A sum over lines of other keys.
  sum_filed : (p : Line → Bool) (n : Line → ℕ) → p l ≡ false → ((i : ℕ) → i < g.count → key g i ≡ k → p (line g i) ≡ false)
      → sum_if p n (filed g k l) ≡ sum_if p n g
  sum_filed p n mine others =
      cond_both (known g k) g.count (suc g.count) (λ (c : ℕ). sum_to c (λ i. part p n (line (filed g k l) i)) ≡ sum_if p n g)
      (λ e. same) (λ e. new (ltb-false _ _ e))
    where
      each : (i : ℕ) → i < g.count → part p n (line (filed g k l) i) ≡ part p n (line g i)
      each i b =
          ap (part p n) (line_filed i)
          ∙ cond_both (eqb i (place_of g k)) l (line g i) (λ (x : Line). part p n x ≡ part p n (line g i))
          (λ e. cond-false _ _ _ mine
          ∙ sym (cond-false _ _ _ (others i b (ap (key g) (eqb-true _ _ e) ∙ place_found g k g.count (subst (λ (j : ℕ). j < g.count) (eqb-true _ _ e) b)))))
          (λ e. refl)

      same : sum_to g.count (λ i. part p n (line (filed g k l) i)) ≡ sum_if p n g
      same = sum_same g.count _ _ each

      new : g.count ≤ place_of g k → sum_to (suc g.count) (λ i. part p n (line (filed g k l) i)) ≡ sum_if p n g
      new b =
          let a = place_most g k g.count in
          let s : sum_to g.count (λ i. part p n (line (filed g k l) i)) ≡ sum_if p n g = same in
          let c : line (filed g k l) g.count ≡ l = line_filed g.count ∙ cond-true _ _ _ (eq-eqb g.count (place_of g k) (omega arith)) in
          let d : part p n (line (filed g k l) g.count) ≡ 0 = ap (part p n) c ∙ cond-false _ _ _ mine in
          omega arith

-- What a line of today has, whatever its size.
record Fresh (l : Line) : Type 0 where
  order : l.claim.price ≤ most_price
  highest : l.highest ≤ most_price
  lowest : l.lowest ≤ most_price
  price : l.price ≡ 0
  difference : l.difference ≡ pos 0
  rest : l.rest ≤ nat_abs l.claim.quantity

fresh_order : (z : ℤ) (h l : ℕ) → h ≤ most_price → l ≤ most_price → order_price z h l ≤ most_price
fresh_order z h l a b =
    cond_both (lt_z z (pos 0)) h (cond (lt_z (pos 0) z) l 0) (λ (n : ℕ). n ≤ most_price) (λ e. a)
    (λ e. cond_both (lt_z (pos 0) z) l 0 (λ (n : ℕ). n ≤ most_price) (λ q. b) (λ q. omega arith))

fresh_bought : (l : Line) (q p : ℕ) → p ≤ most_price → Fresh l → Fresh (bought l q p)
fresh_bought l q p a h =
    let top : max l.highest p ≤ most_price = let b = h.highest in omega arith in
    record {
      order = fresh_order (bought l q p).claim.quantity _ _ top h.lowest;
      highest = top;
      lowest = h.lowest;
      price = h.price;
      difference = h.difference;
      rest = omega arith;
    }

fresh_sold : (l : Line) (q p : ℕ) → p ≤ most_price → Fresh l → Fresh (sold l q p)
fresh_sold l q p a h =
    let low : lower_sale l.lowest p ≤ most_price
    = cond_both (eqb l.lowest 0) p (min l.lowest p) (λ (n : ℕ). n ≤ most_price) (λ e. a) (λ e. omega arith) in
    record {
      order = fresh_order (sold l q p).claim.quantity _ _ h.highest low;
      highest = h.highest;
      lowest = low;
      price = h.price;
      difference = h.difference;
      rest = omega arith;
    }

fresh_blank : (k : Key) → Fresh (blank k)
fresh_blank k = record {
  order = omega arith;
  highest = omega arith;
  lowest = omega arith;
  price = refl;
  difference = refl;
  rest = omega arith;
}

fresh_fits : (f : Figures) (l : Line) → LineFits f l → l.claim.key.due ≡ due_day (today f) → Fresh l
fresh_fits f l h e = record {
  order = h.order;
  highest = h.highest;
  lowest = h.lowest;
  price = h.unpriced e;
  difference = h.plain (h.unpriced e);
  rest = let a = h.rest in omega arith;
}

-- Such a line fits where it has delivered nothing and is not too large.
fits_fresh : (f : Figures) (l : Line) → Known f l → l.claim.key.due ≡ due_day (today f) → Fresh l → l.delivered ≡ 0 → too_large l ≡ false → LineFits f l
fits_fresh f l k due h none small =
    let a = or_parts _ _ small in
    let z : nat_abs l.difference ≡ 0 = ap nat_abs h.difference in
    record {
      known = k;
      quantity = ltb-false _ _ a.0;
      money = ltb-false _ _ a.1;
      order = h.order;
      highest = h.highest;
      lowest = h.lowest;
      price = let p = h.price in omega arith;
      priced = λ b. absurd (omega arith);
      unpriced = λ e. h.price;
      plain = λ e. h.difference;
      difference = omega arith;
      rest = let r = h.rest in omega arith;
    }

-- The line of a key has the key, and is fresh where the lines of its due day are.
key_line_of : (g : Register) (k : Key) → (line_of g k).claim.key ≡ k
key_line_of g k =
    cond_both (known g k) (line g (place_of g k)) (blank k) (λ (l : Line). l.claim.key ≡ k) (λ e. place_found g k g.count (ltb-true _ _ e)) (λ e. refl)

abbrev AllFresh : Register → ℕ → Type 0
AllFresh g due = (i : ℕ) → i < g.count → (key g i).due ≡ due → Fresh (line g i)

fresh_line_of : (g : Register) (k : Key) → AllFresh g k.due → Fresh (line_of g k)
fresh_line_of g k h =
    cond_both (known g k) (line g (place_of g k)) (blank k) Fresh
    (λ e. let l = ltb-true _ _ e in h (place_of g k) l (ap (λ (j : Key). j.due) (place_found g k g.count l))) (λ e. fresh_blank k)

-- A trade of today between members of the house, that makes no line too large.
module _ (f : Figures) (ok : Bounds f) (t : Trade) (buyer : MemberOf f t.buyer) (seller : MemberOf f t.seller) (security : SecurityOf f t.security)
    (price : t.price ≤ most_price) (few : (register_traded f t).count ≤ register_places)
    (small : trade_too_large f.register (due_day (today f)) t ≡ false) where
  -- The keys, the lines and the registers of its two sides.
  abbrev buys : Key
  buys = buyer_key (due_day (today f)) t

  abbrev sells : Key
  sells = seller_key (due_day (today f)) t

  abbrev half : Register
  half = buyer_filed f.register (due_day (today f)) t

  abbrev buyer_line : Line
  buyer_line = bought (line_of f.register buys) t.quantity t.price

  abbrev seller_line : Line
  seller_line = sold (line_of half sells) t.quantity t.price

  room : half.count ≤ register_places
  room = let a = count_filed half sells seller_line in omega arith

  buyer_place : place_of f.register buys < length f.register.lines
  buyer_place = let a = place_filed f.register buys buyer_line in let b = room in let c = ok.shape.places in omega arith

  seller_place : place_of half sells < length half.lines
  seller_place = let a = place_filed half sells seller_line in let c = length-set f.register.lines (place_of f.register buys) buyer_line in let d = ok.shape.places in omega arith

  fresh_first : AllFresh f.register (due_day (today f))
  fresh_first i l e = fresh_fits f _ (ok.lines i l) e

  fresh_buyer : Fresh buyer_line
  fresh_buyer = fresh_bought (line_of f.register buys) t.quantity t.price price (fresh_line_of f.register buys fresh_first)

  fresh_half : AllFresh half (due_day (today f))
  fresh_half i l =
      at_filed f.register buys buyer_line (key_line_of f.register buys) buyer_place (λ (k : Line). k.claim.key.due ≡ due_day (today f) → Fresh k) i l
      (λ e q. fresh_buyer) (λ d b q. fresh_first i b q)

  fresh_seller : Fresh seller_line
  fresh_seller = fresh_sold (line_of half sells) t.quantity t.price price (fresh_line_of half sells fresh_half)

  known_key : (k : Key) → MemberOf f k.member → k.security ≡ t.security → k.due ≡ due_day (today f) → (l : Line) → l.claim.key ≡ k → Known f l
  known_key k m s d l e =
      let a = ap (λ (j : Key). j.member) e in
      let b = ap (λ (j : Key). j.security) e in
      let c = ap (λ (j : Key). j.due) e in
      let m₀ = m.0 in
      let m₁ = m.1 in
      let s₀ = security.0 in
      let s₁ = security.1 in
      record { some_member = omega arith; member_known = omega arith; some_security = omega arith; security_known = omega arith; due_known = omega arith }

  fits_seller : LineFits f seller_line
  fits_seller =
      fits_fresh f seller_line (known_key sells seller refl refl seller_line (key_line_of half sells)) (ap (λ (j : Key). j.due) (key_line_of half sells)) fresh_seller refl
      (subst (λ (l : Line). too_large l ≡ false) (line_own half sells seller_line (key_line_of half sells) seller_place) (or_parts _ _ small).1)

  -- The buyer's line stands in the end where the seller's is another.
  buyer_line_stands : (place_of f.register buys ≡ place_of half sells → ⊥) → line_of (trade_filed f.register (due_day (today f)) t) buys ≡ buyer_line
  buyer_line_stands apart =
      cond-true _ _ _ (lt-ltb _ _ (subst (λ (n : ℕ). n < (filed half sells seller_line).count) (sym place) below))
      ∙ (ap (line (filed half sells seller_line)) place
      ∙ (line_filed half sells seller_line (key_line_of half sells) seller_place (place_of f.register buys)
      ∙ (cond-false _ _ _ (ne_eqb _ _ apart)
      ∙ (line_filed f.register buys buyer_line (key_line_of f.register buys) buyer_place (place_of f.register buys)
      ∙ cond-true _ _ _ (eq-eqb (place_of f.register buys) _ refl)))))
    where
      own : place_of half buys ≡ place_of f.register buys
      own = place_own f.register buys buyer_line (key_line_of f.register buys) buyer_place

      first : place_of f.register buys < half.count
      first = place_filed f.register buys buyer_line

      below : place_of f.register buys < (filed half sells seller_line).count
      below = let a = count_filed half sells seller_line in let b = place_filed f.register buys buyer_line in omega arith

      place : place_of (filed half sells seller_line) buys ≡ place_of f.register buys
      place = place_other half sells seller_line (key_line_of half sells) seller_place buys (subst (λ (n : ℕ). n < half.count) (sym own) first) ∙ own

  fits_buyer : (place_of f.register buys ≡ place_of half sells → ⊥) → LineFits f buyer_line
  fits_buyer apart =
      fits_fresh f buyer_line (known_key buys buyer refl refl buyer_line (key_line_of f.register buys)) (ap (λ (j : Key). j.due) (key_line_of f.register buys)) fresh_buyer refl
      (subst (λ (l : Line). too_large l ≡ false) (buyer_line_stands apart) (or_parts _ _ small).0)

  fits_traded : (i : ℕ) → i < (register_traded f t).count → LineFits f (line (register_traded f t) i)
  fits_traded i l =
      at_filed half sells seller_line (key_line_of half sells) seller_place (LineFits f) i l (λ e. fits_seller) (λ d b.
      at_filed f.register buys buyer_line (key_line_of f.register buys) buyer_place (LineFits f) i b
      (λ (e : i ≡ place_of f.register buys). fits_buyer (λ q. d (e ∙ q))) (λ e c. ok.lines i c))

  -- A sum over lines by a test of their keys, that neither key of the trade passes.
  sum_traded : (b : Key → Bool) (n : Line → ℕ) → b buys ≡ false → b sells ≡ false
      → sum_if (λ l. b l.claim.key) n (register_traded f t) ≡ sum_if (λ l. b l.claim.key) n f.register
  sum_traded b n no-buyer no-seller =
      sum_filed half sells seller_line (key_line_of half sells) seller_place (λ l. b l.claim.key) n (ap b (key_line_of half sells) ∙ no-seller) (λ i l e. ap b e ∙ no-seller)
      ∙ sum_filed f.register buys buyer_line (key_line_of f.register buys) buyer_place (λ l. b l.claim.key) n
      (ap b (key_line_of f.register buys) ∙ no-buyer) (λ i l e. ap b e ∙ no-buyer)

  -- The sum of a party, that has no large position.
  weights_party : (m : ℕ) → position_too_large f m ≡ false
      → nat_abs (position f m) + (member f m).advances + sum_if (of_member m) weight (register_traded f t) ≤ most_weight
  weights_party m e =
      let a = ltb-false _ _ e in
      let b = sum_full (register_traded f t).count (λ i. part (of_member m) weight (line (register_traded f t) i))
      (λ i l. let c = weight_most f _ (fits_traded i l) in
      cond_both (of_member m (line (register_traded f t) i)) (weight (line (register_traded f t) i)) 0 (λ (n : ℕ). n ≤ full_weight) (λ q. c) (λ q. omega arith)) in
      omega arith
    where
      sum_full : (n : ℕ) (w : ℕ → ℕ) → ((i : ℕ) → i < n → w i ≤ full_weight) → sum_to n w ≤ n * full_weight
      sum_full zero w h = omega arith
      sum_full (suc n) w h = let a = sum_full n w (λ i l. h i (omega arith)) in let b = h n (omega arith) in omega arith

  weights_other : (m : ℕ) → m < 25 → (t.buyer ≡ m → ⊥) → (t.seller ≡ m → ⊥)
      → nat_abs (position f m) + (member f m).advances + sum_if (of_member m) weight (register_traded f t) ≤ most_weight
  weights_other m l p q =
      let a = sum_traded (λ k. eqb k.member m) weight (ne_eqb _ _ p) (ne_eqb _ _ q) in
      let b = ok.weights m l in
      omega arith

  escrow_traded : (m u : ℕ) → in_escrow f m u + sum_if (due_of m u (today f)) rest_of (register_traded f t) ≤ today f * most_due
  escrow_traded m u =
      let later : leb (due_day (today f)) (today f) ≡ false = lt-leb _ _ (omega arith) in
      let a = sum_traded (λ k. eqb k.member m && (eqb k.security u && leb k.due (today f))) rest_of
      (and_right (eqb t.buyer m) _ (and_right (eqb t.security u) _ later)) (and_right (eqb t.seller m) _ (and_right (eqb t.security u) _ later)) in
      let b = ok.escrow m u in
      omega arith

  pub bounds_traded : position_too_large f t.buyer ≡ false → position_too_large f t.seller ≡ false → Bounds (with_register f (register_traded f t))
  bounds_traded calm-buyer calm-seller = record {
    shape = record {
      some_member = o.some_member;
      few_members = o.few_members;
      some_security = o.some_security;
      few_securities = o.few_securities;
      some_day = o.some_day;
      last = o.last;
      few_lines = few;
      places = length-set half.lines (place_of half sells) seller_line ∙ (length-set f.register.lines (place_of f.register buys) buyer_line ∙ o.places);
      records = o.records;
      rows = o.rows;
      cells = o.cells;
      closes = o.closes;
    };
    lines = λ i l. fits_in f (with_register f (register_traded f t)) _ refl refl (fits_traded i l);
    members = ok.members;
    prices = ok.prices;
    weights = λ m l.
        ⊎_elim
        (λ (e : t.buyer ≡ m). weights_party m (subst (λ (n : ℕ). position_too_large f n ≡ false) e calm-buyer))
        (λ (p : t.buyer ≡ m → ⊥).
        ⊎_elim
        (λ (e : t.seller ≡ m). weights_party m (subst (λ (n : ℕ). position_too_large f n ≡ false) e calm-seller))
        (λ (q : t.seller ≡ m → ⊥). weights_other m l p q)
        (cases_eq t.seller m))
        (cases_eq t.buyer m);
    escrow = escrow_traded;
  }
    where
      o : Shape f
      o = ok.shape
