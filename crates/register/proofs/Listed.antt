-- A register as the list of its lines, the first of its places: what is asked of it and done with it, said of the list.
use Rattle.std.proofs.Common.{◌≡◌, ℕ, zero, suc, ◌+◌, ◌<◌, ◌≤◌, Bool, true, false, cond, not, ◌&&◌, ◌||◌, eqb, nat_lt, nat_le, [], ◌∷◌, ◌++◌, length, take, set, position, Some, None, Option, unwrap_or, is_some, sym, refl, ap, ◌∙◌, ⊎_elim, add-one, add-zero, arith}
use Rattle.std.specs.List.{position_or_len}
use Rattle.std.specs.Option.{ForSome}
use Rattle.std.proofs.lemmas.List.{take_more, length-take-le}
use Rattle.std.proofs.lemmas.List.Sums.{fold-append}
use Rattle.std.proofs.lemmas.List.Folds.{position_or_len_push}
use Rattle.std.proofs.lemmas.Bool.{cases_Bool, cases_eq, eq-eqb, ne_eqb, lt-ltb, le-ltb, le-leb, lt-leb, leb-true, leb-false, or_parts, or_from, and_from, and_left, and_right, true≢false, ltb-true, ltb-false, cond-true, cond-false}
use Rattle.rank.specs.declared.key.Key.{Key}
use Rattle.rank.specs.Keys.{key_number}
use Rattle.register.specs.declared.line.Line.{Line}
use Rattle.register.specs.declared.Register.{Register}
use Rattle.register.specs.Limits.{register_places}
use Rattle.register.specs.Lines.{no_line, line}
use Rattle.register.specs.Netting.{same_key, place_below, place_of, known, filed}
use Rattle.register.specs.Asking.{smaller_from, smallest_from}
use Rattle.register.specs.Nearest.{nearer, nearest}
use Rattle.register.specs.Fits.{Tabled}
use Rattle.register.proofs.KeyPlaces.{place_most}

-- The lines up to a place are those before it and the line at it.
take_listed : (g : Register) (n : ℕ) → n < length g.lines → take (suc n) g.lines ≡ take n g.lines ++ line g n ∷ []
take_listed g n l = rw (← add-one n) (take_more g.lines n no_line l)

length_listed : (g : Register) → Tabled g → length (take g.count g.lines) ≡ g.count
length_listed g t = let a = t.places in let b = t.few in length-take-le g.count g.lines (omega arith)

-- The place of a key is that of the first line of the list that has it.
next_place : (a n : ℕ) (b : Bool) → a ≤ n → cond (nat_lt a n) a (cond b n (suc n)) ≡ cond (eqb a n) (n + cond b 0 1) a
next_place a n b h = ⊎_elim here before (cases_eq a n)
  where
    here : a ≡ n → cond (nat_lt a n) a (cond b n (suc n)) ≡ cond (eqb a n) (n + cond b 0 1) a
    here e =
        cond-false _ _ _ (le-ltb a n (omega arith))
        ∙ (⊎_elim
        (λ (t : b ≡ true). cond-true _ _ _ t ∙ (sym (add-zero n) ∙ ap (λ (x : ℕ). n + x) (sym (cond-true _ _ _ t))))
        (λ (f : b ≡ false). cond-false _ _ _ f ∙ (sym (add-one n) ∙ ap (λ (x : ℕ). n + x) (sym (cond-false _ _ _ f))))
        (cases_Bool b)
        ∙ sym (cond-true _ _ _ (eq-eqb a n e)))

    before : (a ≡ n → ⊥) → cond (nat_lt a n) a (cond b n (suc n)) ≡ cond (eqb a n) (n + cond b 0 1) a
    before d = cond-true _ _ _ (lt-ltb a n (omega arith)) ∙ sym (cond-false _ _ _ (ne_eqb a n d))

place_taken : (g : Register) (k : Key) (n : ℕ) → n ≤ length g.lines
    → place_below g k n ≡ position_or_len (λ l. same_key l.claim.key k) (take n g.lines)
place_taken g k zero h = refl
place_taken g k (suc n) h =
    let p = λ (l : Line). same_key l.claim.key k in
    let x = line g n in
    let xs = take n g.lines in
    let t : length xs ≡ n = length-take-le n g.lines (omega arith) in
    let o = place_taken g k n (omega arith) in
    next_place (place_below g k n) n (p x) (place_most g k n)
    ∙ (ap (λ (i : ℕ). cond (eqb i n) (n + cond (p x) 0 1) i) o
    ∙ (ap (λ (m : ℕ). cond (eqb (position_or_len p xs) m) (m + cond (p x) 0 1) (position_or_len p xs)) (sym t)
    ∙ (sym (position_or_len_push p xs x) ∙ ap (position_or_len p) (sym (take_listed g n (omega arith))))))

pub position_listed : (g : Register) (k : Key) → Tabled g
    → position (λ l. same_key l.claim.key k) (take g.count g.lines) ≡ cond (known g k) (Some (place_of g k)) None
position_listed g k t =
    let a = t.places in
    let b = t.few in
    let o : place_of g k ≡ position_or_len (λ l. same_key l.claim.key k) (take g.count g.lines) = place_taken g k g.count (omega arith) in
    ap (λ (i : ℕ). cond (nat_lt i (length (take g.count g.lines))) (Some i) None) (sym o)
    ∙ ap (λ (m : ℕ). cond (nat_lt (place_of g k) m) (Some (place_of g k)) None) (length_listed g t)

-- A line put into its place, or behind the others.
pub filed_at : (g : Register) (k : Key) (l : Line) → known g k ≡ true → filed g k l ≡ record { count = g.count; lines = set g.lines (place_of g k) l }
filed_at g k l e = let n : cond (known g k) g.count (suc g.count) ≡ g.count = cond-true _ _ _ e in λ t. record { count = n t; lines = set g.lines (place_of g k) l }

pub filed_behind : (g : Register) (k : Key) (l : Line) → known g k ≡ false → filed g k l ≡ record { count = suc g.count; lines = set g.lines g.count l }
filed_behind g k l e =
    let most = place_most g k g.count in
    let least = ltb-false _ _ e in
    let at : place_of g k ≡ g.count = omega arith in
    let n : cond (known g k) g.count (suc g.count) ≡ suc g.count = cond-false _ _ _ e in
    let s : set g.lines (place_of g k) l ≡ set g.lines g.count l = ap (λ (i : ℕ). set g.lines i l) at in
    λ t. record { count = n t; lines = s t }

-- Of the first n lines, the nearest, and its place.
abbrev pub found_below : ℕ → Register → ℕ → Option Line
found_below from g n = cond (nat_lt (smallest_from g from n) n) (Some (line g (smallest_from g from n))) None

found_more : (g : Register) (from n best : ℕ)
    → nearer from (cond (nat_lt best n) (Some (line g best)) None) (line g n)
    ≡ cond (nat_lt (smaller_from g from best n) (suc n)) (Some (line g (smaller_from g from best n))) None
found_more g from n best = ⊎_elim one none (cases_Bool (nat_lt best n))
  where
    x : Line
    x = line g n

    b : Line
    b = line g best

    here : ℕ
    here = key_number x.claim.key

    there : ℕ
    there = key_number b.claim.key

    wanted : ℕ → Option Line
    wanted m = cond (nat_lt m (suc n)) (Some (line g m)) None

    at_n : wanted n ≡ Some x
    at_n = cond-true _ _ _ (lt-ltb n (suc n) (omega arith))

    -- The line at the place n is taken where its number is in range and smaller than that of the one before, if there is one.
    taken : (o : Bool) → nat_lt best n ≡ o → from ≤ here → (o ≡ true → here < there) → wanted (smaller_from g from best n) ≡ Some x
    taken o e low less =
        ap wanted (cond-true _ _ _
        (and_from _ _ (le-leb from here low)
        (⊎_elim
        (λ (t : o ≡ true). ap (λ (w : Bool). not w || nat_lt here there) (e ∙ t) ∙ lt-ltb here there (less t))
        (λ (f : o ≡ false). ap (λ (w : Bool). not w || nat_lt here there) (e ∙ f))
        (cases_Bool o))))
        ∙ at_n

    left : (nat_le from here && (not (nat_lt best n) || nat_lt here there)) ≡ false → smaller_from g from best n ≡ cond (nat_lt best n) best (suc n)
    left f = cond-false _ _ _ f

    one : nat_lt best n ≡ true → nearer from (cond (nat_lt best n) (Some b) None) x ≡ wanted (smaller_from g from best n)
    one e =
        ap (λ (o : Option Line). nearer from o x) (cond-true _ _ _ e)
        ∙ ⊎_elim
        (λ (t : (nat_lt here from || nat_le there here) ≡ true). cond-true _ _ _ t ∙ sym (ap wanted (left (out t) ∙ cond-true _ _ _ e) ∙ cond-true _ _ _ (lt-ltb best (suc n) (let l = ltb-true _ _ e in omega arith))))
        (λ (f : (nat_lt here from || nat_le there here) ≡ false).
        let q = or_parts _ _ f in
        cond-false _ _ _ f ∙ sym (taken true e (ltb-false _ _ q.0) (λ _. let l = leb-false _ _ q.1 in omega arith)))
        (cases_Bool (nat_lt here from || nat_le there here))
      where
        out : (nat_lt here from || nat_le there here) ≡ true → (nat_le from here && (not (nat_lt best n) || nat_lt here there)) ≡ false
        out t =
            ⊎_elim
            (λ (l : nat_lt here from ≡ true). and_left _ _ (lt-leb from here (ltb-true _ _ l)))
            (λ (l : nat_lt here from ≡ false).
            let m : nat_le there here ≡ true = ap (λ (w : Bool). w || nat_le there here) (sym l) ∙ t in
            and_right _ _ (or_from _ _ (ap not e) (le-ltb here there (leb-true _ _ m))))
            (cases_Bool (nat_lt here from))

    none : nat_lt best n ≡ false → nearer from (cond (nat_lt best n) (Some b) None) x ≡ wanted (smaller_from g from best n)
    none e =
        ap (λ (o : Option Line). nearer from o x) (cond-false _ _ _ e)
        ∙ ⊎_elim
        (λ (t : nat_lt here from ≡ true). cond-true _ _ _ t ∙ sym (ap wanted (left (out t) ∙ cond-false _ _ _ e) ∙ cond-false _ _ _ (le-ltb (suc n) (suc n) (omega arith))))
        (λ (f : nat_lt here from ≡ false). cond-false _ _ _ f ∙ sym (taken false e (ltb-false _ _ f) (λ t. absurd (true≢false (sym t)))))
        (cases_Bool (nat_lt here from))
      where
        out : nat_lt here from ≡ true → (nat_le from here && (not (nat_lt best n) || nat_lt here there)) ≡ false
        out t = and_left _ _ (lt-leb from here (ltb-true _ _ t))

nearest_taken : (g : Register) (from n : ℕ) → n ≤ length g.lines → nearest from (take n g.lines) ≡ found_below from g n
nearest_taken g from zero h = refl
nearest_taken g from (suc n) h =
    ap (nearest from) (take_listed g n (omega arith))
    ∙ (fold-append (nearer from) None (take n g.lines) (line g n ∷ [])
    ∙ (ap (λ (o : Option Line). nearer from o (line g n)) (nearest_taken g from n (omega arith))
    ∙ found_more g from n (smallest_from g from n)))

pub nearest_listed : (g : Register) (from : ℕ) → Tabled g → nearest from (take g.count g.lines) ≡ found_below from g g.count
nearest_listed g from t = let a = t.places in let b = t.few in nearest_taken g from g.count (omega arith)

-- What the place of a key says, if there is one and if there is none.
pub place_is : (g : Register) (k : Key) (i : ℕ) → cond (known g k) (Some (place_of g k)) None ≡ Some i → (known g k ≡ true) × (place_of g k ≡ i)
place_is g k i e =
    ⊎_elim
    (λ (t : known g k ≡ true). (t, ap (λ (o : Option ℕ). unwrap_or o 0) (sym (cond-true _ _ _ t) ∙ e)))
    (λ (f : known g k ≡ false). absurd (true≢false (ap is_some (sym e ∙ cond-false _ _ _ f))))
    (cases_Bool (known g k))

pub place_is_none : (g : Register) (k : Key) → cond (known g k) (Some (place_of g k)) None ≡ None → known g k ≡ false
place_is_none g k e =
    ⊎_elim
    (λ (t : known g k ≡ true). absurd (true≢false (ap is_some (sym (cond-true _ _ _ t) ∙ e))))
    (λ (f : known g k ≡ false). f)
    (cases_Bool (known g k))

pub place_within : (g : Register) (k : Key) → Tabled g → ForSome (cond (known g k) (Some (place_of g k)) None) (λ i. i < register_places)
place_within g k t i e =
    let at = place_is g k i e in
    let a = ltb-true _ _ at.0 in
    let b = t.few in
    let c = at.1 in
    omega arith
