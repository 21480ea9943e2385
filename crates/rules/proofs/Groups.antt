-- Sums over the lines of a due day and security, and what they say of a house between events.
use Rattle.std.proofs.Common.{◌≡◌, ℕ, zero, suc, ◌+◌, ◌*◌, ◌<◌, ◌≤◌, Bool, true, false, cond, ◌&&◌, eqb, ltb, ◌⊎◌, ℤ, pos, ◌+ℤ◌, ◌*ℤ◌, neg_ℤ, nat_abs, sym, refl, ap, ◌∙◌, subst, inl, inr, ⊎_elim, add-mul, arith}
use lib.IntN.{zero-*ℤ}
use lib.Signed.{lt_z}
use borrow.Author.Differences.{up, down, sum_is_lem, product_is, same_in}
use Rattle.std.proofs.lemmas.Int.{ints}
use Rattle.std.proofs.lemmas.Bool.Decides.{nat_tests}
use Rattle.std.proofs.lemmas.Bool.{cases_eq, cases_Bool, eqb-true, and_parts, lt-ltb, cond-true, cond-false}
use Rattle.book.specs.Ledger.{sum_to, most_amount}
use Rattle.book.proofs.Sums.{sum_zero}
use Rattle.rank.specs.declared.key.Key.{Key}
use Rattle.rules.specs.declared.figures.Size.{Size}
use Rattle.register.specs.declared.line.Line.{Line}
use Rattle.register.specs.declared.Register.{Register}
use Rattle.rules.specs.declared.figures.Figures.{Figures}
use Rattle.rules.specs.State.{State, pool, escrow, cash, position, in_escrow, today}
use Rattle.register.specs.Lines.{line, key, delivers, receives, in_group, signed_rest, sum_z, sum_z_if, to_deliver, to_receive, in_hand}
use Rattle.register.specs.Netting.{due_day}
use Rattle.rules.specs.Life.{Matched}
use Rattle.rules.specs.Fit.{Shape, Known}
use Rattle.rules.proofs.Sums.{sum_z_same, sum_z_zero, part_z}
use Rattle.rules.proofs.Invariants.{worth, all_worth, settled_day, days, SoundLines, Rested}

-- Terms of a sum that count under a test: equal where it holds, 0 where they are 0; and sums of 0.
pub same_if : (b : Bool) (x y : ℤ) → (b ≡ true → x ≡ y) → cond b x (pos 0) ≡ cond b y (pos 0)
same_if true x y h = h refl
same_if false x y h = refl

pub none_if : (b : Bool) (v : ℤ) → v ≡ pos 0 → cond b v (pos 0) ≡ pos 0
none_if true v h = h
none_if false v h = refl

none_added : (x y : ℤ) → x ≡ pos 0 → y ≡ pos 0 → x +ℤ y ≡ pos 0
none_added x y p q = omega (arith, ints)

-- Products of whole numbers over sums.
times_sum : (a b c : ℤ) → (a +ℤ b) *ℤ c ≡ a *ℤ c +ℤ b *ℤ c
times_sum a b c =
    let s = sum_is_lem a b in
    let p = product_is (a +ℤ b) c in
    let q = product_is a c in
    let r = product_is b c in
    let t = sum_is_lem (a *ℤ c) (b *ℤ c) in
    let x = shared (up (a +ℤ b)) (down a) (down b) (down (a +ℤ b)) (up a) (up b) (up c) (omega arith) in
    let y = shared (up (a +ℤ b)) (down a) (down b) (down (a +ℤ b)) (up a) (up b) (down c) (omega arith) in
    same_in _ _ (omega arith)
  where
    shared : (x y z u v w k : ℕ) → x + y + z ≡ u + v + w → x * k + y * k + z * k ≡ u * k + v * k + w * k
    shared x y z u v w k e = sym (three x y z k) ∙ (ap (λ n. n * k) e ∙ three u v w k)
      where
        three : (x y z k : ℕ) → (x + y + z) * k ≡ x * k + y * k + z * k
        three x y z k = add-mul (x + y) z k ∙ ap (λ n. n + z * k) (add-mul x y k)

pub sum_z_plus : (n : ℕ) (f g : ℕ → ℤ) → sum_z n (λ i. f i +ℤ g i) ≡ sum_z n f +ℤ sum_z n g
sum_z_plus zero f g = refl
sum_z_plus (suc n) f g = let e = sum_z_plus n f g in omega (arith, ints)

pub sum_z_times : (n : ℕ) (f : ℕ → ℤ) (c : ℤ) → sum_z n (λ i. f i *ℤ c) ≡ sum_z n f *ℤ c
sum_z_times zero f c = sym (zero-*ℤ c)
sum_z_times (suc n) f c = ap (λ x. x +ℤ f n *ℤ c) (sum_z_times n f c) ∙ sym (times_sum (sum_z n f) (f n) c)

-- A sum is 0 if the terms of every class add to 0.
sum_below : (n : ℕ) (class : ℕ → ℕ) (z : ℕ → ℤ) → ((c : ℕ) → sum_z n (λ i. cond (eqb (class i) c) (z i) (pos 0)) ≡ pos 0)
    → (b : ℕ) → sum_z n (λ i. cond (ltb (class i) b) (z i) (pos 0)) ≡ pos 0
sum_below n class z h zero = sum_z_zero n _ (λ k l. grind (arith, nat_tests))
sum_below n class z h (suc b) =
    sum_z_same n _ (λ i. cond (ltb (class i) b) (z i) (pos 0) +ℤ cond (eqb (class i) b) (z i) (pos 0)) (λ k l. one (class k) (z k))
    ∙ (sum_z_plus n _ _ ∙ none_added _ _ (sum_below n class z h b) (h b))
  where
    one : (c : ℕ) (v : ℤ) → cond (ltb c (suc b)) v (pos 0) ≡ cond (ltb c b) v (pos 0) +ℤ cond (eqb c b) v (pos 0)
    one c v = grind (arith, nat_tests, ints)

sum_by_class : (n : ℕ) (class : ℕ → ℕ) (b : ℕ) (z : ℕ → ℤ) → ((i : ℕ) → i < n → class i < b)
    → ((c : ℕ) → sum_z n (λ i. cond (eqb (class i) c) (z i) (pos 0)) ≡ pos 0) → sum_z n z ≡ pos 0
sum_by_class n class b z l h =
    sum_z_same n z (λ i. cond (ltb (class i) b) (z i) (pos 0)) (λ k m. sym (cond-true (ltb (class k) b) (z k) (pos 0) (lt-ltb (class k) b (l k m)))) ∙ sum_below n class z h b

-- A sum over all lines is 0 if its sum over every due day and security is.
sum_by_group : (f : Figures) → SoundLines f → (z : Line → ℤ) → ((d t : ℕ) → sum_z_if (in_group d t) z f.register ≡ pos 0)
    → sum_z f.register.count (λ i. z (line f.register i)) ≡ pos 0
sum_by_group f s z h =
    sum_by_class f.register.count (λ i. (key f.register i).due) (suc (due_day (today f))) (λ i. z (line f.register i))
    (λ i l. let k = (s.known i l).due_known in omega arith)
    (λ d. sum_by_class f.register.count (λ i. (key f.register i).security) (suc f.size.securities)
    (λ i. cond (eqb (key f.register i).due d) (z (line f.register i)) (pos 0))
    (λ i l. let k = (s.known i l).security_known in omega arith)
    (λ t. sum_z_same f.register.count _ _ (λ i l. both (eqb (key f.register i).due d) (eqb (key f.register i).security t) (z (line f.register i))) ∙ h d t))
  where
    both : (a b : Bool) (v : ℤ) → cond b (cond a v (pos 0)) (pos 0) ≡ cond (a && b) v (pos 0)
    both true true v = refl
    both true false v = refl
    both false true v = refl
    both false false v = refl

-- A line's rest with the sign of its side; 0 for a line netted to nothing.
abbrev pub sided : Line → ℤ
sided l = cond (delivers l) (pos l.rest) (cond (receives l) (neg_ℤ (pos l.rest)) (pos 0))

-- No line both delivers and receives.
one_side : (q : ℤ) → lt_z (pos 0) q ≡ true → lt_z q (pos 0) ≡ false
one_side q e = grind (arith, ints)

sided_sum : (g : Register) (d t : ℕ) → sum_z_if (in_group d t) sided g +ℤ pos (to_receive g d t) ≡ pos (to_deliver g d t)
sided_sum g d t = upto g.count
  where
    part : (x y b : Bool) (r : ℕ) → (x ≡ true → y ≡ false)
        → cond b (cond x (pos r) (cond y (neg_ℤ (pos r)) (pos 0))) (pos 0) +ℤ pos (cond (y && b) r 0) ≡ pos (cond (x && b) r 0)
    part true true b r h = absurd (let e = h refl in let z : ◌≡◌ {A = ℕ} 0 1 = cc in omega arith)
    part true false true r h = omega (arith, ints)
    part true false false r h = omega (arith, ints)
    part false true true r h = omega (arith, ints)
    part false true false r h = omega (arith, ints)
    part false false true r h = omega (arith, ints)
    part false false false r h = omega (arith, ints)

    upto : (n : ℕ) → sum_z n (λ i. part_z (in_group d t) sided (line g i)) +ℤ pos (sum_to n (λ i. cond (receives (line g i) && in_group d t (line g i)) (line g i).rest 0))
        ≡ pos (sum_to n (λ i. cond (delivers (line g i) && in_group d t (line g i)) (line g i).rest 0))
    upto zero = refl
    upto (suc n) =
        let e = upto n in
        let p = part (delivers (line g n)) (receives (line g n)) (in_group d t (line g n)) (line g n).rest (one_side (line g n).claim.quantity) in
        omega (arith, ints)

-- A rest within the netted quantity: the two signed rests agree. A whole one: they are the netted quantity.
sided_within : (l : Line) → l.rest ≤ nat_abs l.claim.quantity → signed_rest l ≡ sided l
sided_within l h = by l.claim.quantity l.rest h
  where
    by : (q : ℤ) (r : ℕ) → r ≤ nat_abs q → cond (lt_z q (pos 0)) (neg_ℤ (pos r)) (pos r) ≡ cond (lt_z (pos 0) q) (pos r) (cond (lt_z q (pos 0)) (neg_ℤ (pos r)) (pos 0))
    by q r h = grind (arith, ints)

pub sided_whole : (l : Line) → l.rest ≡ nat_abs l.claim.quantity → sided l ≡ l.claim.quantity
sided_whole l h = by l.claim.quantity l.rest h
  where
    by : (q : ℤ) (r : ℕ) → r ≡ nat_abs q → cond (lt_z (pos 0) q) (pos r) (cond (lt_z q (pos 0)) (neg_ℤ (pos r)) (pos 0)) ≡ q
    by q r h = grind (arith, ints)

-- Some of the first numbers passes a test, or none does.
some_or_none : (n : ℕ) (b : ℕ → Bool) → ((i : ℕ) × (i < n) × (b i ≡ true)) ⊎ ((i : ℕ) → i < n → b i ≡ false)
some_or_none zero b = inr (λ i l. absurd (omega arith))
some_or_none (suc n) b =
    ⊎_elim (λ (s : (i : ℕ) × (i < n) × (b i ≡ true)). let l = s.1 in inl (s.0, omega arith, s.2))
    (λ (f : (i : ℕ) → i < n → b i ≡ false).
    ⊎_elim (λ (e : b n ≡ true). inl (n, omega arith, e))
    (λ (e : b n ≡ false). inr (λ i l. ⊎_elim (λ (q : i ≡ n). ap b q ∙ e) (λ (q : i ≡ n → ⊥). f i (omega arith)) (cases_eq i n)))
    (cases_Bool (b n)))
    (some_or_none n b)

-- Terms that add to 0 still do when each is taken at the one price that they have.
sum_priced : (n : ℕ) (b : ℕ → Bool) (x : ℕ → ℤ) (p : ℕ → ℕ) (h : ℕ → ℤ)
    → ((i j : ℕ) → i < n → j < n → b i ≡ true → b j ≡ true → p i ≡ p j)
    → sum_z n (λ i. cond (b i) (x i) (pos 0)) ≡ pos 0 → sum_z n (λ i. cond (b i) (x i *ℤ h (p i)) (pos 0)) ≡ pos 0
sum_priced n b x p h one e =
    ⊎_elim
    (λ (s : (i : ℕ) × (i < n) × (b i ≡ true)).
    sum_z_same n _ (λ i. cond (b i) (x i) (pos 0) *ℤ h (p s.0)) (λ i l. at (b i) (x i) (p i) (p s.0) (λ t. one i s.0 l s.1 t s.2))
    ∙ (sum_z_times n (λ i. cond (b i) (x i) (pos 0)) (h (p s.0)) ∙ (ap (λ z. z *ℤ h (p s.0)) e ∙ zero-*ℤ (h (p s.0)))))
    (λ f. sum_z_zero n _ (λ i l. cond-false (b i) _ (pos 0) (f i l)))
    (some_or_none n b)
  where
    at : (t : Bool) (v : ℤ) (q r : ℕ) → (t ≡ true → q ≡ r) → cond t (v *ℤ h q) (pos 0) ≡ cond t v (pos 0) *ℤ h r
    at true v q r k = ap (λ z. v *ℤ h z) (k refl)
    at false v q r k = sym (zero-*ℤ (h r))

-- A line that has the key of a known one is known, also to a house of the same size on that day or later.
pub known_like : (f g : Figures) (l k : Line) → g.size ≡ f.size → today f ≤ today g → k.claim.key ≡ l.claim.key → Known f l → Known g k
known_like f g l k z d q h =
    let a = h.due_known in
    let later : l.claim.key.due ≤ due_day (today g) = omega arith in
    record {
      some_member = subst (λ (y : Key). 0 < y.member) (sym q) h.some_member;
      member_known = subst (λ (y : Key). y.member ≤ g.size.members) (sym q) (subst (λ (n : Size). l.claim.key.member ≤ n.members) (sym z) h.member_known);
      some_security = subst (λ (y : Key). 0 < y.security) (sym q) h.some_security;
      security_known = subst (λ (y : Key). y.security ≤ g.size.securities) (sym q) (subst (λ (n : Size). l.claim.key.security ≤ n.securities) (sym z) h.security_known);
      due_known = subst (λ (y : Key). y.due ≤ due_day (today g)) (sym q) later;
    }

-- What the lines of a house come to between events, by due day and security.
pub record EvenLines (f : Figures) : Type 0 where
  pub shape : Shape f
  pub lines : SoundLines f
  pub within : (i : ℕ) → i < f.register.count → (line f.register i).rest ≤ nat_abs (line f.register i).claim.quantity
  pub even : (d t : ℕ) → sum_z_if (in_group d t) sided f.register ≡ pos 0
  pub level : (d t : ℕ) → sum_z_if (in_group d t) (λ l. l.difference) f.register ≡ pos 0
  pub fresh : (t : ℕ) → sum_z_if (in_group (due_day (today f)) t) (λ l. l.money) f.register ≡ pos 0
  pub whole : (i : ℕ) → i < f.register.count → today f < (key f.register i).due
      → (line f.register i).rest ≡ nat_abs (line f.register i).claim.quantity
  pub unpriced : (i : ℕ) → i < f.register.count → (key f.register i).due ≡ due_day (today f)
      → ((line f.register i).price ≡ 0) × ((line f.register i).difference ≡ pos 0)
  pub settled : (i : ℕ) → i < f.register.count → (key f.register i).due ≤ settled_day f → (line f.register i).difference ≡ pos 0

-- Lines of a due day and security have one price.
group_price : (f : Figures) → SoundLines f → (d t i j : ℕ) → i < f.register.count → j < f.register.count
    → in_group d t (line f.register i) ≡ true → in_group d t (line f.register j) ≡ true → (line f.register i).price ≡ (line f.register j).price
group_price f s d t i j l k a b =
    let x = and_parts (eqb (key f.register i).due d) (eqb (key f.register i).security t) a in
    let y = and_parts (eqb (key f.register j).due d) (eqb (key f.register j).security t) b in
    s.one_price i j l k
    (eqb-true (key f.register i).due d x.0 ∙ sym (eqb-true (key f.register j).due d y.0))
    (eqb-true (key f.register i).security t x.1 ∙ sym (eqb-true (key f.register j).security t y.1))

-- Signed rests of a due day and security add to 0, also at a price that depends on theirs.
even_rests : (f : Figures) → EvenLines f → (d t : ℕ) → sum_z_if (in_group d t) signed_rest f.register ≡ pos 0
even_rests f e d t =
    sum_z_same f.register.count _ _ (λ i l. ap (λ z. cond (in_group d t (line f.register i)) z (pos 0)) (sided_within (line f.register i) (e.within i l))) ∙ e.even d t

pub even_priced : (f : Figures) → EvenLines f → (d t : ℕ) (h : ℕ → ℤ) → sum_z_if (in_group d t) (λ l. signed_rest l *ℤ h l.price) f.register ≡ pos 0
even_priced f e d t h =
    sum_priced f.register.count (λ i. in_group d t (line f.register i)) (λ i. signed_rest (line f.register i)) (λ i. (line f.register i).price) h
    (group_price f e.lines d t) (even_rests f e d t)

-- Nothing is open in money.
no_worth : (f : Figures) → EvenLines f → all_worth f ≡ pos 0
no_worth f e = sum_by_group f e.lines worth (λ d t.
    sum_z_same f.register.count _ (λ i. part_z (in_group d t) (λ l. l.difference) (line f.register i) +ℤ part_z (in_group d t) (λ l. signed_rest l *ℤ pos l.price) (line f.register i))
    (λ i l. apart (in_group d t (line f.register i)) (line f.register i).difference (signed_rest (line f.register i) *ℤ pos (line f.register i).price))
    ∙ (sum_z_plus f.register.count _ _ ∙ none_added _ _ (e.level d t) (even_priced f e d t pos)))
  where
    apart : (b : Bool) (x y : ℤ) → cond b (x +ℤ y) (pos 0) ≡ cond b x (pos 0) +ℤ cond b y (pos 0)
    apart true x y = refl
    apart false x y = refl

-- Between events, with the money that is open given by the positions and the pool's cash alone.
pub record Even (s : State) : Type 0 where
  pub lines : EvenLines s.figures
  pub accounts : s.accounts ≡ 3 * s.figures.size.members + 3
  pub assets : s.assets ≡ s.figures.size.securities + 1
  pub small : (t : ℕ) → sum_to s.accounts (λ a. s.held a t) ≤ most_amount
  pub escrowed : (t : ℕ) → 0 < t → sum_to (suc s.figures.size.members) (λ m. in_escrow s.figures m t) ≡ s.held escrow t
  pub empty : (t : ℕ) → 0 < t → s.held pool t ≡ 0
  pub money : sum_z (suc s.figures.size.members) (position s.figures) +ℤ pos (s.held pool cash) ≡ pos 0

-- As much to deliver as to receive.
even_sides : (f : Figures) → EvenLines f → (d t : ℕ) → to_deliver f.register d t ≡ to_receive f.register d t
even_sides f e d t = let a = sided_sum f.register d t in let b = e.even d t in omega (arith, ints)

even_lines : (s : State) → Rested s → EvenLines s.figures
even_lines s r = record {
  shape = r.works.shape;
  lines = r.works.lines;
  within = r.within;
  level = r.level;
  fresh = r.fresh;
  whole = r.whole;
  unpriced = r.unpriced;
  settled = r.settled;
  even = λ d t. let a = sided_sum s.figures.register d t in let b = r.works.covered d t in let c = r.none_in_hand d t in omega (arith, ints);
}

pub even_rested : (s : State) → Rested s → Even s
even_rested s r = let e = even_lines s r in let w = r.works in record {
  lines = e;
  accounts = w.accounts;
  assets = w.assets;
  small = w.small;
  escrowed = w.escrowed;
  empty = λ t o. sym (w.pooled t o) ∙ sum_zero days (λ d. in_hand s.figures.register d t) (λ d. r.none_in_hand d t);
  money = w.balanced ∙ no_worth s.figures e;
}

pub rested_even : (s : State) → Even s → Rested s
rested_even s e =
    let l = e.lines in
    let none : (d t : ℕ) → in_hand s.figures.register d t ≡ 0 = λ d t. let q = even_sides s.figures l d t in omega arith in
    record {
      none_in_hand = none;
      within = l.within;
      level = l.level;
      fresh = l.fresh;
      whole = l.whole;
      unpriced = l.unpriced;
      settled = l.settled;
      works = record {
        shape = l.shape;
        lines = l.lines;
        accounts = e.accounts;
        assets = e.assets;
        small = e.small;
        escrowed = e.escrowed;
        pooled = λ t o. sum_zero days (λ d. in_hand s.figures.register d t) (λ d. none d t) ∙ sym (e.empty t o);
        covered = λ d t. let q = even_sides s.figures l d t in omega arith;
        balanced = e.money ∙ sym (no_worth s.figures l);
      };
    }

pub matched_rested : (s : State) → Rested s → Matched s
matched_rested s r = let e = even_rested s r in record { shares = even_sides s.figures e.lines; money = e.money }
