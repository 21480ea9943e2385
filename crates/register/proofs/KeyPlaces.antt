-- The place of a key, and a register with a line filed.
use Rattle.std.proofs.Common.{◌≡◌, ℕ, zero, suc, ◌<◌, ◌≤◌, true, false, cond, ◌||◌, eqb, ltb, List, length, get_or, set, sym, refl, ap, ◌∙◌, subst, ⊎_elim, arith, get_or-set_other, get_or-set_same}
use Rattle.std.proofs.lemmas.Bool.{cases_eq, cases_Bool, true≢false, eqb-true, eqb-false, eq-eqb, ne_eqb, lt-ltb, le-ltb, ltb-true, ltb-false, and_parts, and_from, cond-true, cond-false, cond_both}
use Rattle.rank.specs.declared.key.Key.{Key}
use Rattle.rank.specs.Keys.{flag_number}
use Rattle.rank.specs.Numbers.{key_same}
use Rattle.register.specs.declared.line.Line.{Line}
use Rattle.register.specs.declared.Register.{Register}
use Rattle.register.specs.Lines.{no_line, blank, line, key}
use Rattle.register.specs.Netting.{same_key, place_below, place_of, known, line_of, filed}

-- Equal keys, by the test and as values.
pub same_keys : (j k : Key) → same_key j k ≡ true → j ≡ k
same_keys j k e =
    let a = and_parts _ _ e in
    let b = and_parts _ _ a.1 in
    let c = and_parts _ _ b.1 in
    key_same j k (eqb-true _ _ a.0) (eqb-true _ _ b.0) (eqb-true _ _ c.0) (eqb-true _ _ c.1)

pub same_key_self : (k : Key) → same_key k k ≡ true
same_key_self k =
    and_from _ _ (eq-eqb k.due _ refl) (and_from _ _ (eq-eqb k.security _ refl) (and_from _ _ (eq-eqb k.member _ refl) (eq-eqb (flag_number k.flag) _ refl)))

-- The first place of a key.
pub place_most : (g : Register) (k : Key) (n : ℕ) → place_below g k n ≤ n
place_most g k zero = omega arith
place_most g k (suc n) =
    let a = place_most g k n in
    cond_both (ltb (place_below g k n) n) (place_below g k n) (cond (same_key (key g n) k) n (suc n)) (λ (i : ℕ). i ≤ suc n)
    (λ e. omega arith) (λ e. cond_both (same_key (key g n) k) n (suc n) (λ (i : ℕ). i ≤ suc n) (λ q. omega arith) (λ q. omega arith))

pub place_found : (g : Register) (k : Key) (n : ℕ) → place_below g k n < n → key g (place_below g k n) ≡ k
place_found g k zero l = absurd (omega arith)
place_found g k (suc n) l =
    cond_both (ltb (place_below g k n) n) (place_below g k n) (cond (same_key (key g n) k) n (suc n)) (λ (i : ℕ). i < suc n → key g i ≡ k)
    (λ e l. place_found g k n (ltb-true _ _ e))
    (λ e. cond_both (same_key (key g n) k) n (suc n) (λ (i : ℕ). i < suc n → key g i ≡ k) (λ q l. same_keys _ _ q) (λ q l. absurd (omega arith))) l

-- A place that was found stays the first, however many places follow.
pub place_stays : (g : Register) (k : Key) (n m : ℕ) → place_below g k n < n → n ≤ m → place_below g k m ≡ place_below g k n
place_stays g k n zero l h = absurd (omega arith)
place_stays g k n (suc m) l h =
    ⊎_elim
    (λ (e : n ≡ suc m). ap (place_below g k) (sym e))
    (λ (d : n ≡ suc m → ⊥). let a = place_stays g k n m l (omega arith) in cond-true _ _ _ (lt-ltb (place_below g k m) m (omega arith)) ∙ a)
    (cases_eq n (suc m))

-- The key stands at a place, and at none before it.
pub place_at : (g : Register) (k : Key) (n : ℕ) → place_below g k n ≡ n → same_key (key g n) k ≡ true → n < g.count → place_of g k ≡ n
place_at g k n none here l =
    let a : place_below g k (suc n) ≡ n = cond-false _ _ _ (le-ltb (place_below g k n) n (omega arith)) ∙ cond-true _ _ _ here in
    place_stays g k (suc n) g.count (omega arith) (omega arith) ∙ a

-- The key stands at no place up to one.
pub place_not_at : (g : Register) (k : Key) (n : ℕ) → place_below g k n ≡ n → same_key (key g n) k ≡ false → place_below g k (suc n) ≡ suc n
place_not_at g k n none here = cond-false _ _ _ (le-ltb (place_below g k n) n (omega arith)) ∙ cond-false _ _ _ here

pub place_same : (e g : Register) (k : Key) (n : ℕ) → ((i : ℕ) → i < n → key e i ≡ key g i) → place_below e k n ≡ place_below g k n
place_same e g k zero h = refl
place_same e g k (suc n) h =
    let a = place_same e g k n (λ i l. h i (omega arith)) in
    ap (λ (i : ℕ). cond (ltb i n) i (cond (same_key (key e n) k) n (suc n))) a
    ∙ ap (λ (j : Key). cond (ltb (place_below g k n) n) (place_below g k n) (cond (same_key j k) n (suc n))) (h n (omega arith))

-- The line of a key has the key.
pub key_line_of : (g : Register) (k : Key) → (line_of g k).claim.key ≡ k
key_line_of g k =
    cond_both (known g k) (line g (place_of g k)) (blank k) (λ (l : Line). l.claim.key ≡ k) (λ e. place_found g k g.count (ltb-true _ _ e)) (λ e. refl)

pub count_filed : (g : Register) (k : Key) (l : Line) → g.count ≤ (filed g k l).count
count_filed g k l = cond_both (known g k) g.count (suc g.count) (λ (n : ℕ). g.count ≤ n) (λ e. omega arith) (λ e. omega arith)

pub place_filed : (g : Register) (k : Key) (l : Line) → place_of g k < (filed g k l).count
place_filed g k l =
    let a = place_most g k g.count in
    cond_both (known g k) g.count (suc g.count) (λ (n : ℕ). place_of g k < n) (λ e. ltb-true _ _ e) (λ e. omega arith)

-- One element of a list is another.
pub get_or_with : {A : Type 0} (xs : List A) (i : ℕ) (v d : A) → i < length xs → (j : ℕ) → get_or (set xs i v) j d ≡ cond (eqb j i) v (get_or xs j d)
get_or_with xs i v d l j =
    ⊎_elim
    (λ (e : j ≡ i). ap (λ k. get_or (set xs i v) k d) e ∙ (get_or-set_same xs i v d l ∙ sym (ap (λ b. cond b v (get_or xs j d)) (eq-eqb j i e))))
    (λ (n : j ≡ i → ⊥). get_or-set_other xs i j v d n ∙ sym (ap (λ b. cond b v (get_or xs j d)) (ne_eqb j i n)))
    (cases_eq j i)

-- A line filed under its key, where there is a place.
module _ (g : Register) (k : Key) (l : Line) (is : l.claim.key ≡ k) (long : place_of g k < length g.lines) where
  pub line_filed : (i : ℕ) → line (filed g k l) i ≡ cond (eqb i (place_of g k)) l (line g i)
  line_filed i = get_or_with g.lines (place_of g k) l no_line long i

  pub key_filed : (i : ℕ) → i < g.count → key (filed g k l) i ≡ key g i
  key_filed i b =
      ap (λ (x : Line). x.claim.key) (line_filed i)
      ∙ cond_both (eqb i (place_of g k)) l (line g i) (λ (x : Line). x.claim.key ≡ key g i)
      (λ e. is ∙ (sym (place_found g k g.count (subst (λ (n : ℕ). n < g.count) (eqb-true _ _ e) b)) ∙ ap (key g) (sym (eqb-true _ _ e)))) (λ e. refl)

  -- No key comes to stand at another of the places before.
  pub place_before : (j : Key) → place_below (filed g k l) j g.count ≡ place_of g j
  place_before j = place_same (filed g k l) g j g.count key_filed

  -- A new line stands behind the others.
  pub key_behind : g.count ≤ place_of g k → key (filed g k l) g.count ≡ k
  key_behind b =
      let a = place_most g k g.count in
      ap (λ (x : Line). x.claim.key) (line_filed g.count ∙ cond-true _ _ _ (eq-eqb g.count (place_of g k) (omega arith))) ∙ is

  -- The key's place stays, and so does the place of every key that had one.
  pub place_own : place_of (filed g k l) k ≡ place_of g k
  place_own =
      cond_both (known g k) g.count (suc g.count) (λ (n : ℕ). place_below (filed g k l) k n ≡ place_of g k)
      (λ e. place_before k) (λ e. new (ltb-false _ _ e))
    where
      new : g.count ≤ place_of g k → place_below (filed g k l) k (suc g.count) ≡ place_of g k
      new b =
          let a = place_most g k g.count in
          let s : place_below (filed g k l) k g.count ≡ place_of g k = place_before k in
          cond-false (ltb (place_below (filed g k l) k g.count) g.count) _ _ (le-ltb _ _ (omega arith))
          ∙ (cond-true _ _ _ (subst (λ (j : Key). same_key j k ≡ true) (sym (key_behind b)) (same_key_self k)) ∙ (omega arith))

  pub place_other : (j : Key) → place_of g j < g.count → place_of (filed g k l) j ≡ place_of g j
  place_other j b =
      cond_both (known g k) g.count (suc g.count) (λ (n : ℕ). place_below (filed g k l) j n ≡ place_of g j)
      (λ e. place_before j) (λ e. cond-true _ _ _ (lt-ltb _ _ (subst (λ (n : ℕ). n < g.count) (sym (place_before j)) b)) ∙ place_before j)

  -- Another key that had no place has none.
  pub place_none : (j : Key) → same_key k j ≡ false → g.count ≤ place_of g j → place_of (filed g k l) j ≡ (filed g k l).count
  place_none j d b =
      let a = place_most g j g.count in
      let s : place_below (filed g k l) j g.count ≡ g.count = place_before j ∙ (omega arith) in
      cond_both (known g k) g.count (suc g.count) (λ (n : ℕ). place_below (filed g k l) j n ≡ n)
      (λ e. s)
      (λ e. place_not_at (filed g k l) j g.count s (subst (λ (i : Key). same_key i j ≡ false) (sym (key_behind (ltb-false _ _ e))) d))

  pub line_own : line_of (filed g k l) k ≡ l
  line_own =
      cond-true _ _ _ (lt-ltb _ _ (subst (λ (n : ℕ). n < (filed g k l).count) (sym place_own) (place_filed g k l)))
      ∙ (ap (line (filed g k l)) place_own ∙ (line_filed (place_of g k) ∙ cond-true _ _ _ (eq-eqb (place_of g k) _ refl)))

  -- A key is known afterwards if it is the line's, or was known before.
  pub known_filed : (j : Key) → known (filed g k l) j ≡ (same_key k j || known g j)
  known_filed j = ⊎_elim own other (cases_Bool (same_key k j))
    where
      own : same_key k j ≡ true → known (filed g k l) j ≡ (same_key k j || known g j)
      own e =
          ap (known (filed g k l)) (sym (same_keys k j e))
          ∙ (lt-ltb _ _ (subst (λ (n : ℕ). n < (filed g k l).count) (sym place_own) (place_filed g k l))
          ∙ sym (ap (λ b. b || known g j) e))

      other : same_key k j ≡ false → known (filed g k l) j ≡ (same_key k j || known g j)
      other e =
          ⊎_elim
          (λ (q : known g j ≡ true).
          let a = place_other j (ltb-true _ _ q) in let b = count_filed g k l in let c = ltb-true _ _ q in
          lt-ltb (place_of (filed g k l) j) (filed g k l).count (omega arith) ∙ sym q)
          (λ (q : known g j ≡ false).
          let a = place_none j e (ltb-false _ _ q) in
          le-ltb (place_of (filed g k l) j) (filed g k l).count (omega arith) ∙ sym q)
          (cases_Bool (known g j))
          ∙ sym (ap (λ b. b || known g j) e)

  -- Another key's line stays.
  pub line_other : (j : Key) → same_key k j ≡ false → line_of (filed g k l) j ≡ line_of g j
  line_other j e = ⊎_elim old none (cases_Bool (known g j))
    where
      same_known : known (filed g k l) j ≡ known g j
      same_known = known_filed j ∙ ap (λ b. b || known g j) e

      apart : known g j ≡ true → place_of g j ≡ place_of g k → ⊥
      apart q p =
          let b = ltb-true _ _ q in
          let same : j ≡ k = sym (place_found g j g.count b) ∙ (ap (key g) p ∙ place_found g k g.count (subst (λ (n : ℕ). n < g.count) p b)) in
          true≢false (sym (same_key_self k) ∙ (ap (same_key k) (sym same) ∙ e))

      old : known g j ≡ true → line_of (filed g k l) j ≡ line_of g j
      old q =
          cond-true _ _ _ (same_known ∙ q)
          ∙ (ap (line (filed g k l)) (place_other j (ltb-true _ _ q))
          ∙ (line_filed (place_of g j) ∙ (cond-false _ _ _ (ne_eqb _ _ (apart q)) ∙ sym (cond-true _ _ _ q))))

      none : known g j ≡ false → line_of (filed g k l) j ≡ line_of g j
      none q = cond-false _ _ _ (same_known ∙ q) ∙ sym (cond-false _ _ _ q)

  pub line_of_filed : (j : Key) → line_of (filed g k l) j ≡ cond (same_key k j) l (line_of g j)
  line_of_filed j =
      ⊎_elim
      (λ (e : same_key k j ≡ true). ap (line_of (filed g k l)) (sym (same_keys k j e)) ∙ (line_own ∙ sym (cond-true _ _ _ e)))
      (λ (e : same_key k j ≡ false). line_other j e ∙ sym (cond-false _ _ _ e))
      (cases_Bool (same_key k j))

  -- A place of the register is the line's own, or it was one before and stands as it was.
  pub at_filed : (P : Line → Type 0) (i : ℕ) → i < (filed g k l).count → (i ≡ place_of g k → P l)
      → ((i ≡ place_of g k → ⊥) → i < g.count → P (line g i)) → P (line (filed g k l) i)
  at_filed P i b here there =
      subst P (sym (line_filed i))
      (cond_both (eqb i (place_of g k)) l (line g i) P (λ e. here (eqb-true _ _ e)) (λ e. there (eqb-false _ _ e) (before (eqb-false _ _ e) b)))
    where
      apart : {j p n : ℕ} → (j ≡ p → ⊥) → p ≤ n → n ≤ p → j < suc n → j < n
      apart d a c q = omega arith

      before : (i ≡ place_of g k → ⊥) → i < (filed g k l).count → i < g.count
      before d =
          let a = place_most g k g.count in
          cond_both (known g k) g.count (suc g.count) (λ (n : ℕ). i < n → i < g.count) (λ e q. q) (λ e q. let c = ltb-false _ _ e in apart d a c q)
