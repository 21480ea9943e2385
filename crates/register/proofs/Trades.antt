-- Both sides of a trade in the register.
use Rattle.std.proofs.Common.{◌≡◌, ℕ, suc, ◌+◌, ◌*◌, ◌<◌, ◌≤◌, Bool, true, false, cond, ◌||◌, ltb, length, ℤ, pos, ◌+ℤ◌, neg_ℤ, nat_abs, sym, ap, ◌∙◌, subst, ⊎_elim, arith, length-set}
use Rattle.std.proofs.lemmas.Nat.{mul-le}
use Rattle.std.proofs.lemmas.Int.{ints}
use Rattle.std.proofs.lemmas.Bool.{cases_Bool, cases_lt, true≢false, or_parts, cond-true, cond-false, cond_both, lt-ltb, le-ltb, ltb-true, ltb-false}
use Rattle.rank.specs.declared.key.Key.{Key}
use Rattle.register.specs.declared.line.Line.{Line}
use Rattle.register.specs.declared.trade.Trade.{Trade}
use Rattle.register.specs.declared.Register.{Register}
use Rattle.register.specs.declared.netting.Sides.{Sides}
use Rattle.register.specs.Limits.{most_quantity, most_price, most_money, register_places}
use Rattle.register.specs.Lines.{line, blank}
use Rattle.register.specs.Netting.{same_key, place_of, known, line_of, bought, sold, filed, buyer_key, seller_key, buyer_filed, trade_filed, too_large, trade_too_large}
use Rattle.register.specs.Sides.{sides_netted, one_unless, new_lines}
use Rattle.register.specs.Fits.{Tabled, Sized, AllSized, Nettable, Room}
use Rattle.register.proofs.KeyPlaces.{at_filed, place_own, same_keys, same_key_self, place_most, key_line_of, count_filed, place_filed, known_filed, line_of_filed}

-- A sum that one trade lowers.
lowered_within : (z : ℤ) (n m : ℕ) → nat_abs z ≤ 1 * m → n ≤ m → nat_abs (z +ℤ neg_ℤ (pos n)) ≤ 2 * m
lowered_within z n m a b = omega (arith, ints)

pub sized_bought : (l : Line) (q p : ℕ) → Sized 1 l → q ≤ most_quantity → p ≤ most_price → Sized 2 (bought l q p)
sized_bought l q p s a b = record {
  quantity = lowered_within l.claim.quantity q most_quantity s.quantity a;
  money = lowered_within l.money (q * p) most_money s.money (mul-le q p most_quantity most_price a b);
}

sized_more : (l : Line) → Sized 1 l → Sized 2 l
sized_more l s = let a = s.quantity in let b = s.money in record { quantity = omega arith; money = omega arith }

sized_small : (l : Line) → too_large l ≡ false → Sized 1 l
sized_small l e =
    let a = or_parts (ltb most_quantity (nat_abs l.claim.quantity)) (ltb most_money (nat_abs l.money)) e in
    let q = ltb-false most_quantity (nat_abs l.claim.quantity) a.0 in
    let m = ltb-false most_money (nat_abs l.money) a.1 in
    record { quantity = omega arith; money = omega arith }

pub sized_line_of : (g : Register) (k : Key) → AllSized g → Sized 1 (line_of g k)
sized_line_of g k s =
    cond_both (known g k) (line g (place_of g k)) (blank k) (Sized 1) (λ e. s (place_of g k) (ltb-true _ _ e)) (λ e. record { quantity = omega arith; money = omega arith })

other_way : (j k : Key) → same_key j k ≡ false → same_key k j ≡ false
other_way j k e =
    ⊎_elim
    (λ (q : same_key k j ≡ true). absurd (true≢false (sym (same_key_self j) ∙ (ap (same_key j) (sym (same_keys k j q)) ∙ e))))
    (λ (q : same_key k j ≡ false). q)
    (cases_Bool (same_key k j))

cond_count : (b : Bool) (n : ℕ) → cond b n (suc n) ≡ n + one_unless b
cond_count b n = cond_both b n (suc n) (λ (m : ℕ). m ≡ n + one_unless b) (λ e. yes e) (λ e. no e)
  where
    yes : b ≡ true → n ≡ n + one_unless b
    yes e = let a : one_unless b ≡ 0 = cond-true _ _ _ e in omega arith

    no : b ≡ false → suc n ≡ n + one_unless b
    no e = let a : one_unless b ≡ 1 = cond-false _ _ _ e in omega arith

cond_most : (b : Bool) → one_unless b ≤ 1
cond_most b = cond_both b 0 1 (λ (m : ℕ). m ≤ 1) (λ e. omega arith) (λ e. omega arith)

pub new_few : (g : Register) (b s : Key) → new_lines g b s ≤ 2
new_few g b s = let x = cond_most (known g b) in let y = cond_most (same_key b s || known g s) in omega arith

-- A trade that falls due on a day: the keys and lines of its sides, and the register between them.
module _ (g : Register) (due : ℕ) (t : Trade) where
  abbrev kb : Key
  kb = buyer_key due t

  abbrev ks : Key
  ks = seller_key due t

  abbrev lb : Line
  lb = bought (line_of g kb) t.quantity t.price

  abbrev half : Register
  half = buyer_filed g due t

  abbrev ls : Line
  ls = sold (line_of half ks) t.quantity t.price

  -- The same, by keys and lines that are worked out first.
  pub sides_from : (r : Sides) (j k : Key) (one : Bool) (b s : Line) → j ≡ kb → k ≡ ks → one ≡ same_key j k → b ≡ line_of g j → s ≡ line_of g k
      → r ≡ sides_netted one b s t → r ≡ sides_netted (same_key kb ks) (line_of g kb) (line_of g ks) t
  sides_from r j k one b s ej ek eo eb es er =
      er ∙ (ap (λ (x : Bool). sides_netted x b s t) (eo ∙ (ap (λ (i : Key). same_key i k) ej ∙ ap (same_key kb) ek))
      ∙ (ap (λ (x : Line). sides_netted (same_key kb ks) x s t) (eb ∙ ap (line_of g) ej)
      ∙ ap (λ (x : Line). sides_netted (same_key kb ks) (line_of g kb) x t) (es ∙ ap (line_of g) ek)))

  pub half_from : (r : Register) (j : Key) → j ≡ kb → r ≡ filed g j (bought (line_of g j) t.quantity t.price) → r ≡ half
  half_from r j e er = er ∙ ap (λ (k : Key). filed g k (bought (line_of g k) t.quantity t.price)) e

  -- The lines that it opens, where the buyer's has a place.
  count_both : place_of g kb < length g.lines → (trade_filed g due t).count ≡ g.count + new_lines g kb ks
  count_both long =
      let a : half.count ≡ g.count + one_unless (known g kb) = cond_count (known g kb) g.count in
      let b : (trade_filed g due t).count ≡ half.count + one_unless (known half ks) = cond_count (known half ks) half.count in
      let c : one_unless (known half ks) ≡ one_unless (same_key kb ks || known g ks)
      = ap one_unless (known_filed g kb lb (key_line_of g kb) long ks) in
      omega arith

  -- They have no place if they are too many, and also if the buyer's has none.
  pub count_lacks : Tabled g → ltb register_places (g.count + new_lines g kb ks) ≡ ltb register_places (trade_filed g due t).count
  count_lacks table =
      ⊎_elim
      (λ (h : place_of g kb < length g.lines). ap (ltb register_places) (sym (count_both h)))
      (λ (h : length g.lines ≤ place_of g kb).
      let a = table.places in let b = table.few in let c = place_most g kb g.count in
      let new : one_unless (known g kb) ≡ 1 = cond-false _ _ _ (le-ltb (place_of g kb) g.count (omega arith)) in
      let d = place_filed g kb lb in
      let e = count_filed half ks ls in
      lt-ltb register_places (g.count + new_lines g kb ks) (omega arith)
      ∙ sym (lt-ltb register_places (trade_filed g due t).count (omega arith)))
      (cases_lt (place_of g kb) (length g.lines))

  -- Where both sides have a place.
  module _ (table : Tabled g) (room : Room g due t) where
    pub half_table : Tabled half
    half_table =
        let a = table.places in
        let b = length-set g.lines (place_of g kb) lb in
        let c = count_filed half ks ls in
        record { places = omega arith; few = omega arith }

    pub buyer_place : place_of g kb < register_places
    buyer_place = let a = place_filed g kb lb in let b = half_table.few in omega arith

    pub seller_place : place_of half ks < register_places
    seller_place = let a = place_filed half ks ls in omega arith

    long_b : place_of g kb < length g.lines
    long_b = let a = buyer_place in let b = table.places in omega arith

    long_s : place_of half ks < length half.lines
    long_s = let a = seller_place in let b = half_table.places in omega arith

    -- The lines after the buyer's side, and after both.
    pub line_half : (k : Key) → line_of half k ≡ cond (same_key kb k) lb (line_of g k)
    line_half k = line_of_filed g kb lb (key_line_of g kb) long_b k

    pub line_both : (k : Key) → line_of (trade_filed g due t) k ≡ cond (same_key ks k) ls (line_of half k)
    line_both k = line_of_filed half ks ls (key_line_of half ks) long_s k

    -- After both sides the seller's line and the buyer's are what the two lines before give.
    pub seller_after : (sides_netted (same_key kb ks) (line_of g kb) (line_of g ks) t).seller ≡ line_of (trade_filed g due t) ks
    seller_after =
        sym (line_both ks ∙ (cond-true _ _ _ (same_key_self ks) ∙ (ap (λ (l : Line). sold l t.quantity t.price) (line_half ks)
        ∙ ⊎_elim
        (λ (e : same_key kb ks ≡ true).
        ap (λ b. sold (cond b lb (line_of g ks)) t.quantity t.price) e
        ∙ sym (ap (λ b. (sides_netted b (line_of g kb) (line_of g ks) t).seller) e))
        (λ (e : same_key kb ks ≡ false).
        ap (λ b. sold (cond b lb (line_of g ks)) t.quantity t.price) e
        ∙ sym (ap (λ b. (sides_netted b (line_of g kb) (line_of g ks) t).seller) e))
        (cases_Bool (same_key kb ks)))))

    pub buyer_after : (sides_netted (same_key kb ks) (line_of g kb) (line_of g ks) t).buyer ≡ line_of (trade_filed g due t) kb
    buyer_after = ⊎_elim one two (cases_Bool (same_key kb ks))
      where
        one : same_key kb ks ≡ true → (sides_netted (same_key kb ks) (line_of g kb) (line_of g ks) t).buyer ≡ line_of (trade_filed g due t) kb
        one e =
            ap (λ b. (sides_netted b (line_of g kb) (line_of g ks) t).buyer) e
            ∙ (sym (ap (λ b. (sides_netted b (line_of g kb) (line_of g ks) t).seller) e)
            ∙ (seller_after ∙ ap (line_of (trade_filed g due t)) (sym (same_keys kb ks e))))

        two : same_key kb ks ≡ false → (sides_netted (same_key kb ks) (line_of g kb) (line_of g ks) t).buyer ≡ line_of (trade_filed g due t) kb
        two e =
            ap (λ b. (sides_netted b (line_of g kb) (line_of g ks) t).buyer) e
            ∙ sym (line_both kb ∙ (cond-false _ _ _ (other_way kb ks e) ∙ (line_half kb ∙ cond-true _ _ _ (same_key_self kb))))

    module _ (sized : AllSized g) (fewer : t.quantity ≤ most_quantity) (cheaper : t.price ≤ most_price) where
      pub buyer_nettable : Nettable g kb
      buyer_nettable = record { place = buyer_place; sized = sized_more _ (sized_line_of g kb sized) }

      pub seller_nettable : Nettable half ks
      seller_nettable = record {
        place = seller_place;
        sized = subst (Sized 2) (sym (line_half ks))
            (cond_both (same_key kb ks) lb (line_of g ks) (Sized 2)
            (λ e. sized_bought (line_of g kb) t.quantity t.price (sized_line_of g kb sized) fewer cheaper)
            (λ e. sized_more _ (sized_line_of g ks sized)));
      }

    -- The lines stay within their limits over a trade that passes none.
    pub trade_sized : AllSized g → trade_too_large g due t ≡ false → AllSized (trade_filed g due t)
    trade_sized sized small i h =
        at_filed half ks ls (key_line_of half ks) long_s (Sized 1) i h
        (λ e. seller_sized)
        (λ d b. at_filed g kb lb (key_line_of g kb) long_b (Sized 1) i b (λ e. buyer_sized i e d) (λ _ c. sized i c))
      where
        within : (too_large (line_of (trade_filed g due t) kb) ≡ false) × (too_large (line_of (trade_filed g due t) ks) ≡ false)
        within = or_parts (too_large (line_of (trade_filed g due t) kb)) (too_large (line_of (trade_filed g due t) ks)) small

        seller_sized : Sized 1 ls
        seller_sized = subst (Sized 1) (line_both ks ∙ cond-true _ _ _ (same_key_self ks)) (sized_small (line_of (trade_filed g due t) ks) within.1)

        buyer_sized : (i : ℕ) → i ≡ place_of g kb → (i ≡ place_of half ks → ⊥) → Sized 1 lb
        buyer_sized i e d =
            ⊎_elim
            (λ (q : same_key kb ks ≡ true).
            absurd (d (e ∙ (sym (place_own g kb lb (key_line_of g kb) long_b) ∙ ap (place_of half) (same_keys kb ks q)))))
            (λ (q : same_key kb ks ≡ false).
            subst (Sized 1) (line_both kb ∙ (cond-false _ _ _ (other_way kb ks q) ∙ (line_half kb ∙ cond-true _ _ _ (same_key_self kb))))
            (sized_small (line_of (trade_filed g due t) kb) within.0))
            (cases_Bool (same_key kb ks))
