-- The acts of a run: which are its acts, what they leave alone, and what a list of them keeps.
use Rattle.std.proofs.Common.{◌≡◌, ℕ, zero, suc, ◌<◌, ◌≤◌, Bool, true, false, cond, ◌&&◌, eqb, leb, List, [], ◌∷◌, ◌++◌, map, length, set, sym, refl, ap, ◌∙◌, subst, ⊎_elim, arith, length-set}
use Rattle.std.proofs.lemmas.Bool.{cases_eq, eq-eqb, ne_eqb, eqb-true}
use Rattle.std.specs.List.{AllByRecursion}
use Rattle.rank.specs.declared.claim.Claim.{Claim}
use Rattle.rank.specs.Claims.{is_delivering, is_receiving}
use Rattle.rank.specs.Order.{insert}
use Rattle.rules.specs.declared.figures.Size.{Size}
use Rattle.rules.specs.declared.figures.Clock.{Clock}
use Rattle.register.specs.declared.line.Line.{Line}
use Rattle.rules.specs.declared.figures.Member.{Member}
use Rattle.rules.specs.declared.figures.Row.{Row}
use Rattle.register.specs.declared.Register.{Register}
use Rattle.rules.specs.declared.figures.Figures.{Figures}
use Rattle.rules.specs.State.{State, no_row, today, put_line, put_member, put_escrow, with_fails}
use Rattle.register.specs.Lines.{line}
use Rattle.rules.specs.Run.{Act, settle, give, give_escrow, serve, pay, pay_out, repay, pay_charges, pass, mark_line, mark, charge, compensate, close_line, require, amount, noted, after_act, performed, Along, Before, goes_before, ordered, in_run, places_if, due_today, upto, from_one, each, all_members, all_securities, all_places, share, differences, deliveries_of, deliveries, servings, payments_of, payments, payouts, repayments_of, repayments, passings_of, passings, marks, chargings, delivering, receiving, line_given, line_served, line_settled, line_marked}
use Rattle.rules.specs.Fit.{Shape}
use Rattle.rules.proofs.Written.{get_or_with, line_with, row}

-- A member of the house, a security, a place of the register.
abbrev pub MemberOf : Figures → ℕ → Type 0
MemberOf f m = (0 < m) × (m ≤ f.size.members)

abbrev pub SecurityOf : Figures → ℕ → Type 0
SecurityOf f t = (0 < t) × (t ≤ f.size.securities)

abbrev pub PlaceOf : Figures → (Line → Type 0) → ℕ → Type 0
PlaceOf f P i = (i < f.register.count) × P (line f.register i)

-- The acts of noon and two.
abbrev pub OfRun : Figures → Act → Type 0
OfRun f (settle i) = PlaceOf f (λ l. l.claim.key.due ≡ today f) i
OfRun f (give i) = PlaceOf f (λ l. delivering f l ≡ true) i
OfRun f (give_escrow i) = PlaceOf f (λ l. delivering f l ≡ true) i
OfRun f (serve i) = PlaceOf f (λ l. receiving f l ≡ true) i
OfRun f (pay m from) = MemberOf f m
OfRun f (pay_out m n) = MemberOf f m
OfRun f (repay m) = MemberOf f m
OfRun f (pay_charges m) = MemberOf f m
OfRun f (pass m t) = MemberOf f m × SecurityOf f t
OfRun f (mark_line i) = PlaceOf f (λ l. Unit {0}) i
OfRun f (mark m) = MemberOf f m
OfRun f (charge m) = MemberOf f m
OfRun f (compensate i c) = ⊥
OfRun f (close_line i) = ⊥
OfRun f (require m) = ⊥

-- Writing keeps the shape.
pub shape_line : (f : Figures) (i : ℕ) (l : Line) → Shape f → Shape (put_line f i l)
shape_line f i l h = record {
  some_member = h.some_member;
  few_members = h.few_members;
  some_security = h.some_security;
  few_securities = h.few_securities;
  some_day = h.some_day;
  last = h.last;
  few_lines = h.few_lines;
  places = length-set f.register.lines i l ∙ h.places;
  records = h.records;
  rows = h.rows;
  cells = h.cells;
  closes = h.closes;
}

pub shape_member : (f : Figures) (m : ℕ) (r : Member) → Shape f → Shape (put_member f m r)
shape_member f m r h = record {
  some_member = h.some_member;
  few_members = h.few_members;
  some_security = h.some_security;
  few_securities = h.few_securities;
  some_day = h.some_day;
  last = h.last;
  few_lines = h.few_lines;
  places = h.places;
  records = length-set f.records m r ∙ h.records;
  rows = h.rows;
  cells = h.cells;
  closes = h.closes;
}

-- The length of a row of which one number is written, or of another row.
row_length : (f : Figures) (m s n k : ℕ) → Shape f → k < 25 → length (row (put_escrow f m s n) k).shares ≡ 17
row_length f m s n k h l =
    ⊎_elim
    (λ (e : k ≡ m).
    let b : m < length f.escrow = let r = h.rows in omega arith in
    ap (λ (x : Row). length x.shares) (get_or_with f.escrow m _ no_row b k ∙ ap (λ t. cond t (record { shares = set (row f m).shares s n }) (row f k)) (eq-eqb k m e))
    ∙ (length-set (row f m).shares s n ∙ h.cells m (omega arith)))
    (λ (d : k ≡ m → ⊥). ap (λ (x : Row). length x.shares) (Rattle.std.proofs.lemmas.List.get_or-set_other f.escrow m k _ no_row d) ∙ h.cells k l)
    (cases_eq k m)

pub shape_escrow : (f : Figures) (m s n : ℕ) → Shape f → Shape (put_escrow f m s n)
shape_escrow f m s n h = record {
  some_member = h.some_member;
  few_members = h.few_members;
  some_security = h.some_security;
  few_securities = h.few_securities;
  some_day = h.some_day;
  last = h.last;
  few_lines = h.few_lines;
  places = h.places;
  records = h.records;
  rows = length-set f.escrow m _ ∙ h.rows;
  cells = λ k l. row_length f m s n k h l;
  closes = h.closes;
}

shape_fails : (f : Figures) (n : ℕ) → Shape f → Shape (with_fails f n)
shape_fails f n h = record {
  some_member = h.some_member;
  few_members = h.few_members;
  some_security = h.some_security;
  few_securities = h.few_securities;
  some_day = h.some_day;
  last = h.last;
  few_lines = h.few_lines;
  places = h.places;
  records = h.records;
  rows = h.rows;
  cells = h.cells;
  closes = h.closes;
}

pub shape_noted : (f : Figures) (a : Act) (x : ℕ) → Shape f → Shape (noted f a x)
shape_noted f (settle i) x h = shape_member _ _ _ (shape_line f i _ h)
shape_noted f (give i) x h = shape_member _ _ _ (shape_line f i _ h)
shape_noted f (give_escrow i) x h = shape_escrow _ _ _ _ (shape_member _ _ _ (shape_line f i _ h))
shape_noted f (serve i) x h = shape_escrow _ _ _ _ (shape_member _ _ _ (shape_line f i _ h))
shape_noted f (pay m from) x h = shape_member f m _ h
shape_noted f (pay_out m n) x h = shape_member f m _ h
shape_noted f (repay m) x h = shape_member f m _ h
shape_noted f (pay_charges m) x h = shape_member f m _ h
shape_noted f (pass m t) x h = shape_escrow f m t _ h
shape_noted f (mark_line i) x h = shape_line f i _ h
shape_noted f (mark m) x h = shape_member f m _ h
shape_noted f (charge m) x h = shape_fails _ _ (shape_member f m _ h)
shape_noted f (compensate i c) x h = shape_member _ _ _ (shape_line f i _ h)
shape_noted f (close_line i) x h = shape_line f i _ h
shape_noted f (require m) x h = shape_member f m _ h

-- e comes later in the same run than g: the same lines, with rests no larger.
pub record Later (g e : Figures) : Type 0 where
  pub size : e.size ≡ g.size
  pub clock : e.clock ≡ g.clock
  pub closes : e.closes ≡ g.closes
  pub count : e.register.count ≡ g.register.count
  pub claim : (j : ℕ) → (line e.register j).claim ≡ (line g.register j).claim
  pub money : (j : ℕ) → (line e.register j).money ≡ (line g.register j).money
  pub price : (j : ℕ) → (line e.register j).price ≡ (line g.register j).price
  pub rest : (j : ℕ) → (line e.register j).rest ≤ (line g.register j).rest

pub later_same : (g : Figures) → Later g g
later_same g = record {
  size = refl;
  clock = refl;
  closes = refl;
  count = refl;
  claim = λ j. refl;
  money = λ j. refl;
  price = λ j. refl;
  rest = λ j. omega arith;
}

pub later_trans : (f g e : Figures) → Later f g → Later g e → Later f e
later_trans f g e p q = record {
  size = q.size ∙ p.size;
  clock = q.clock ∙ p.clock;
  closes = q.closes ∙ p.closes;
  count = q.count ∙ p.count;
  claim = λ j. q.claim j ∙ p.claim j;
  money = λ j. q.money j ∙ p.money j;
  price = λ j. q.price j ∙ p.price j;
  rest = λ j. let a = q.rest j in let b = p.rest j in omega arith;
}

-- A line that differs from the one before it in its difference, rest or deliveries alone.
pub record LineLater (l k : Line) : Type 0 where
  pub claim : k.claim ≡ l.claim
  pub money : k.money ≡ l.money
  pub price : k.price ≡ l.price
  pub rest : k.rest ≤ l.rest

pub later_line : (f : Figures) (i : ℕ) (k : Line) → Shape f → i < f.register.count → LineLater (line f.register i) k → Later f (put_line f i k)
later_line f i k h l d = record {
  size = refl;
  clock = refl;
  closes = refl;
  count = refl;
  claim = λ j. one j (λ (x : Line). x.claim ≡ (line f.register j).claim) (λ e. d.claim ∙ ap (λ z. (line f.register z).claim) (sym e)) refl;
  money = λ j. one j (λ (x : Line). x.money ≡ (line f.register j).money) (λ e. d.money ∙ ap (λ z. (line f.register z).money) (sym e)) refl;
  price = λ j. one j (λ (x : Line). x.price ≡ (line f.register j).price) (λ e. d.price ∙ ap (λ z. (line f.register z).price) (sym e)) refl;
  rest = λ j. one j (λ (x : Line). x.rest ≤ (line f.register j).rest) (λ e. subst (λ (z : ℕ). k.rest ≤ (line f.register z).rest) (sym e) d.rest) (omega arith);
}
  where
    one : (j : ℕ) (P : Line → Type 0) → (j ≡ i → P k) → P (line f.register j) → P (line (put_line f i k).register j)
    one j P here there =
        subst P (sym (line_with f.register i k (let a = h.few_lines in let b = h.places in omega arith) j))
        (⊎_elim
        (λ (e : j ≡ i). subst (λ b. P (cond b k (line f.register j))) (sym (eq-eqb j i e)) (here e))
        (λ (n : j ≡ i → ⊥). subst (λ b. P (cond b k (line f.register j))) (sym (ne_eqb j i n)) there)
        (cases_eq j i))

-- Writing members and escrow shares changes no line.
pub later_member : (f : Figures) (m : ℕ) (r : Member) → Later f (put_member f m r)
later_member f m r = record {
  size = refl;
  clock = refl;
  closes = refl;
  count = refl;
  claim = λ j. refl;
  money = λ j. refl;
  price = λ j. refl;
  rest = λ j. omega arith;
}

pub later_escrow : (f : Figures) (m s n : ℕ) → Later f (put_escrow f m s n)
later_escrow f m s n = record {
  size = refl;
  clock = refl;
  closes = refl;
  count = refl;
  claim = λ j. refl;
  money = λ j. refl;
  price = λ j. refl;
  rest = λ j. omega arith;
}

later_fails : (f : Figures) (n : ℕ) → Later f (with_fails f n)
later_fails f n = record {
  size = refl;
  clock = refl;
  closes = refl;
  count = refl;
  claim = λ j. refl;
  money = λ j. refl;
  price = λ j. refl;
  rest = λ j. omega arith;
}

pub later_noted : (f : Figures) (a : Act) (x : ℕ) → Shape f → OfRun f a → Later f (noted f a x)
later_noted f (settle i) x h o =
    later_trans _ _ _ (later_line f i (line_settled (line f.register i)) h o.0 (record { claim = refl; money = refl; price = refl; rest = omega arith })) (later_member _ _ _)
later_noted f (give i) x h o =
    later_trans _ _ _ (later_line f i (line_given (line f.register i) x) h o.0 (record { claim = refl; money = refl; price = refl; rest = omega arith })) (later_member _ _ _)
later_noted f (give_escrow i) x h o =
    later_trans _ _ _ (later_trans _ _ _ (later_line f i (line_given (line f.register i) x) h o.0 (record { claim = refl; money = refl; price = refl; rest = omega arith })) (later_member _ _ _)) (later_escrow _ _ _ _)
later_noted f (serve i) x h o =
    later_trans _ _ _ (later_trans _ _ _ (later_line f i (line_served (line f.register i) x) h o.0 (record { claim = refl; money = refl; price = refl; rest = omega arith })) (later_member _ _ _)) (later_escrow _ _ _ _)
later_noted f (pay m from) x h o = later_member f m _
later_noted f (pay_out m n) x h o = later_member f m _
later_noted f (repay m) x h o = later_member f m _
later_noted f (pay_charges m) x h o = later_member f m _
later_noted f (pass m t) x h o = later_escrow f m t _
later_noted f (mark_line i) x h o = later_line f i (line_marked (line f.register i)) h o.0 (record { claim = refl; money = refl; price = refl; rest = omega arith })
later_noted f (mark m) x h o = later_member f m _
later_noted f (charge m) x h o = later_trans _ _ _ (later_member f m _) (later_fails _ _)
later_noted f (compensate i c) x h o = absurd o
later_noted f (close_line i) x h o = absurd o
later_noted f (require m) x h o = absurd o

-- An act of the run stays one.
of_place : (g e : Figures) → Later g e → (P : Figures → Line → Bool) (i : ℕ)
    → (P e (line e.register i) ≡ P g (line g.register i)) → PlaceOf g (λ l. P g l ≡ true) i → PlaceOf e (λ l. P e l ≡ true) i
of_place g e l P i q o = (subst (λ (n : ℕ). i < n) (sym l.count) o.0, q ∙ o.1)

of_member : (g e : Figures) → Later g e → (m : ℕ) → MemberOf g m → MemberOf e m
of_member g e l m o = (o.0, subst (λ (z : Size). m ≤ z.members) (sym l.size) o.1)

pub same_delivering : (g e : Figures) → Later g e → (i : ℕ) → delivering e (line e.register i) ≡ delivering g (line g.register i)
same_delivering g e l i =
    ap (λ (c : Claim). is_delivering c && leb c.key.due e.clock.day) (l.claim i)
    ∙ ap (λ (k : Clock). is_delivering (line g.register i).claim && leb (line g.register i).claim.key.due k.day) l.clock

pub same_receiving : (g e : Figures) → Later g e → (i : ℕ) → receiving e (line e.register i) ≡ receiving g (line g.register i)
same_receiving g e l i =
    ap (λ (c : Claim). is_receiving c && leb c.key.due e.clock.day) (l.claim i)
    ∙ ap (λ (k : Clock). is_receiving (line g.register i).claim && leb (line g.register i).claim.key.due k.day) l.clock

pub run_later : (g e : Figures) → Later g e → (a : Act) → OfRun g a → OfRun e a
run_later g e l (settle i) o = (
  subst (λ (n : ℕ). i < n) (sym l.count) o.0,
  ap (λ (c : Claim). c.key.due) (l.claim i) ∙ (o.1 ∙ ap (λ (k : Clock). k.day) (sym l.clock)),
)
run_later g e l (give i) o = of_place g e l delivering i (same_delivering g e l i) o
run_later g e l (give_escrow i) o = of_place g e l delivering i (same_delivering g e l i) o
run_later g e l (serve i) o = of_place g e l receiving i (same_receiving g e l i) o
run_later g e l (pay m from) o = of_member g e l m o
run_later g e l (pay_out m n) o = of_member g e l m o
run_later g e l (repay m) o = of_member g e l m o
run_later g e l (pay_charges m) o = of_member g e l m o
run_later g e l (pass m t) o = (of_member g e l m o.0, (o.1.0, subst (λ (z : Size). t ≤ z.securities) (sym l.size) o.1.1))
run_later g e l (mark_line i) o = (subst (λ (n : ℕ). i < n) (sym l.count) o.0, tt)
run_later g e l (mark m) o = of_member g e l m o
run_later g e l (charge m) o = of_member g e l m o
run_later g e l (compensate i c) o = o
run_later g e l (close_line i) o = o
run_later g e l (require m) o = o

-- Lists of acts.
pub performed_append : (s : State) (k l : List Act) → performed s (k ++ l) ≡ performed (performed s k) l
performed_append s [] l = refl
performed_append s (a ∷ k) l = performed_append (after_act s a) k l

pub along_append : (P : State → Act → Type 0) (s : State) (k l : List Act) → Along P s k → Along P (performed s k) l → Along P s (k ++ l)
along_append P s [] l p q = q
along_append P s (a ∷ k) l p q = (p.0, along_append P (after_act s a) k l p.1 q)

pub all_map : {A B : Type 0} (P : B → Type 0) (f : A → B) (xs : List A) → AllByRecursion (λ x. P (f x)) xs → AllByRecursion P (map f xs)
all_map P f [] a = tt
all_map P f (x ∷ xs) a = (a.0, all_map P f xs a.1)

pub all_weaken : {A : Type 0} (P Q : A → Type 0) (xs : List A) → ((x : A) → P x → Q x) → AllByRecursion P xs → AllByRecursion Q xs
all_weaken P Q [] f a = tt
all_weaken P Q (x ∷ xs) f a = (f x a.0, all_weaken P Q xs f a.1)

pub all_append : {A : Type 0} (P : A → Type 0) (xs ys : List A) → AllByRecursion P xs → AllByRecursion P ys → AllByRecursion P (xs ++ ys)
all_append P [] ys a b = b
all_append P (x ∷ xs) ys a b = (a.0, all_append P xs ys a.1 b)

pub all_each : {A B : Type 0} (P : B → Type 0) (f : A → List B) (xs : List A) → AllByRecursion (λ x. AllByRecursion P (f x)) xs → AllByRecursion P (each f xs)
all_each P f [] a = tt
all_each P f (x ∷ xs) a = all_append P (f x) (each f xs) a.0 (all_each P f xs a.1)

pub all_of_run : (g e : Figures) → Later g e → (l : List Act) → AllByRecursion (OfRun g) l → AllByRecursion (OfRun e) l
all_of_run g e h l o = all_weaken (OfRun g) (OfRun e) l (run_later g e h) o

pub shape_performed : (s : State) (l : List Act) → Shape s.figures → Shape (performed s l).figures
shape_performed s [] h = h
shape_performed s (a ∷ l) h = shape_performed (after_act s a) l (shape_noted s.figures a (amount s a) h)

pub later_performed : (s : State) (l : List Act) → Shape s.figures → AllByRecursion (OfRun s.figures) l → Later s.figures (performed s l).figures
later_performed s [] h o = later_same s.figures
later_performed s (a ∷ l) h o =
    let t = later_noted s.figures a (amount s a) h o.0 in
    later_trans _ _ _ t (later_performed (after_act s a) l (shape_noted s.figures a (amount s a) h) (all_of_run _ _ t l o.1))

-- What each act of a run keeps, a list of them keeps; and what holds of each act, holds along the list.
pub performed_keeps : (Inv : State → Type 0) → ((s : State) (a : Act) → Shape s.figures → OfRun s.figures a → Inv s → Inv (after_act s a))
    → (s : State) (l : List Act) → Shape s.figures → AllByRecursion (OfRun s.figures) l → Inv s → Inv (performed s l)
performed_keeps Inv step s [] h o i = i
performed_keeps Inv step s (a ∷ l) h o i =
    performed_keeps Inv step (after_act s a) l (shape_noted s.figures a (amount s a) h)
    (all_of_run _ _ (later_noted s.figures a (amount s a) h o.0) l o.1) (step s a h o.0 i)

pub along_holds : (Inv : State → Type 0) (P : State → Act → Type 0)
    → ((s : State) (a : Act) → Shape s.figures → OfRun s.figures a → Inv s → Inv (after_act s a))
    → ((s : State) (a : Act) → Shape s.figures → OfRun s.figures a → Inv s → P s a)
    → (s : State) (l : List Act) → Shape s.figures → AllByRecursion (OfRun s.figures) l → Inv s → Along P s l
along_holds Inv P step holds s [] h o i = tt
along_holds Inv P step holds s (a ∷ l) h o i = (
  holds s a h o.0 i,
  along_holds Inv P step holds (after_act s a) l (shape_noted s.figures a (amount s a) h)
      (all_of_run _ _ (later_noted s.figures a (amount s a) h o.0) l o.1) (step s a h o.0 i),
)

-- The numbers that the phases go over.
pub all_upto : (P : ℕ → Type 0) (n : ℕ) → ((k : ℕ) → k < n → P k) → AllByRecursion P (upto n)
all_upto P zero f = tt
all_upto P (suc n) f = all_append P (upto n) (n ∷ []) (all_upto P n (λ k l. f k (omega arith))) (f n (omega arith), tt)

pub all_from_one : (P : ℕ → Type 0) (n : ℕ) → ((k : ℕ) → 0 < k → k ≤ n → P k) → AllByRecursion P (from_one n)
all_from_one P n f = all_map P suc (upto n) (all_upto (λ k. P (suc k)) n (λ k l. f (suc k) (omega arith) (omega arith)))

pub all_places_if : (p : Line → Bool) (g : Register) (n : ℕ) → AllByRecursion (λ i. (i < n) × (p (line g i) ≡ true)) (places_if p g n)
all_places_if p g zero = tt
all_places_if p g (suc n) =
    all_append _ (places_if p g n) (cond (p (line g n)) (n ∷ []) [])
    (all_weaken (λ i. (i < n) × (p (line g i) ≡ true)) _ (places_if p g n) (λ i o. (let a = o.0 in omega arith, o.1)) (all_places_if p g n))
    (last (p (line g n)) refl)
  where
    last : (b : Bool) → p (line g n) ≡ b → AllByRecursion (λ i. (i < suc n) × (p (line g i) ≡ true)) (cond b (n ∷ []) [])
    last true e = ((omega arith, e), tt)
    last false e = tt

all_cond : {A : Type 0} (P : A → Type 0) (b : Bool) (xs ys : List A) → (b ≡ true → AllByRecursion P xs) → (b ≡ false → AllByRecursion P ys) → AllByRecursion P (cond b xs ys)
all_cond P true xs ys p q = p refl
all_cond P false xs ys p q = q refl

all_insert : {A : Type 0} (P : A → Type 0) (goes : A → A → Bool) (x : A) (xs : List A) → P x → AllByRecursion P xs → AllByRecursion P (insert goes x xs)
all_insert P goes x [] p a = (p, tt)
all_insert P goes x (y ∷ ys) p a =
    all_cond P (goes x y) (x ∷ y ∷ ys) (y ∷ insert goes x ys) (λ e. (p, a)) (λ e. (a.0, all_insert P goes x ys p a.1))

pub all_ordered : (rank : Before) (g : Register) (p : Line → Bool) (n : ℕ) → AllByRecursion (λ i. (i < n) × (p (line g i) ≡ true)) (ordered rank g p n)
all_ordered rank g p zero = tt
all_ordered rank g p (suc n) =
    let P : ℕ → Type 0 = λ i. (i < suc n) × (p (line g i) ≡ true) in
    let rest : AllByRecursion P (ordered rank g p n)
    = all_weaken (λ i. (i < n) × (p (line g i) ≡ true)) P (ordered rank g p n) (λ i o. (let a = o.0 in omega arith, o.1)) (all_ordered rank g p n) in
    all_cond P (p (line g n)) (insert (λ i j. goes_before rank (line g i) (line g j)) n (ordered rank g p n)) (ordered rank g p n)
    (λ e. all_insert P (λ i j. goes_before rank (line g i) (line g j)) n (ordered rank g p n) (omega arith, e) rest) (λ e. rest)

-- Each phase lists acts of a run.
pub run_differences : (s : State) → AllByRecursion (OfRun s.figures) (differences s)
run_differences s =
    all_map (OfRun s.figures) settle _
    (all_weaken _ _ (due_today s.figures) (λ i o. (o.0, eqb-true _ _ o.1)) (all_places_if (λ l. eqb l.claim.key.due (today s.figures)) s.figures.register s.figures.register.count))

pub run_deliveries : (rank : Before) (s : State) → AllByRecursion (OfRun s.figures) (deliveries rank s)
run_deliveries rank s =
    all_each (OfRun s.figures) deliveries_of (in_run rank s.figures (delivering s.figures))
    (all_weaken _ (λ i. AllByRecursion (OfRun s.figures) (deliveries_of i)) (in_run rank s.figures (delivering s.figures)) (λ i o. (o, (o, tt)))
    (all_ordered rank s.figures.register (delivering s.figures) s.figures.register.count))

pub run_servings : (rank : Before) (s : State) → AllByRecursion (OfRun s.figures) (servings rank s)
run_servings rank s =
    all_map (OfRun s.figures) serve (in_run rank s.figures (receiving s.figures))
    (all_ordered rank s.figures.register (receiving s.figures) s.figures.register.count)

all_of_members : (s : State) (P : ℕ → Type 0) → ((m : ℕ) → MemberOf s.figures m → P m) → AllByRecursion P (all_members s)
all_of_members s P f = all_from_one P s.figures.size.members (λ m a b. f m (a, b))

pub run_payments : (s : State) → AllByRecursion (OfRun s.figures) (payments s)
run_payments s = all_each (OfRun s.figures) payments_of (all_members s) (all_of_members s (λ m. AllByRecursion (OfRun s.figures) (payments_of m)) (λ m o. (o, (o, (o, (o, tt))))))

pub run_payouts : (s : State) → AllByRecursion (OfRun s.figures) (payouts s)
run_payouts s = all_map (OfRun s.figures) (λ m. pay_out m (share s m)) (all_members s) (all_of_members s _ (λ m o. o))

pub run_repayments : (s : State) → AllByRecursion (OfRun s.figures) (repayments s)
run_repayments s = all_each (OfRun s.figures) repayments_of (all_members s) (all_of_members s (λ m. AllByRecursion (OfRun s.figures) (repayments_of m)) (λ m o. (o, (o, tt))))

pub run_passings : (s : State) → AllByRecursion (OfRun s.figures) (passings s)
run_passings s =
    all_each (OfRun s.figures) (passings_of s) (all_members s) (all_of_members s (λ m. AllByRecursion (OfRun s.figures) (passings_of s m)) (λ m o.
    all_map (OfRun s.figures) (pass m) (all_securities s) (all_from_one _ s.figures.size.securities (λ t a b. (o, (a, b))))))

pub run_marks : (s : State) → AllByRecursion (OfRun s.figures) (marks s)
run_marks s =
    all_append (OfRun s.figures) (map mark_line (all_places s)) (map mark (all_members s))
    (all_map (OfRun s.figures) mark_line (all_places s) (all_upto _ s.figures.register.count (λ i l. (l, tt))))
    (all_map (OfRun s.figures) mark (all_members s) (all_of_members s _ (λ m o. o)))

pub run_chargings : (s : State) → AllByRecursion (OfRun s.figures) (chargings s)
run_chargings s = all_map (OfRun s.figures) charge (all_members s) (all_of_members s _ (λ m o. o))
