-- A run makes no more movements than the space that it asks for.
use Rattle.std.proofs.Common.{◌≡◌, ℕ, zero, suc, ◌+◌, ◌*◌, ◌<◌, ◌≤◌, Bool, true, false, cond, ◌&&◌, ltb, leb, List, [], ◌∷◌, ◌++◌, map, length, ℤ, pos, negsuc, ◌+ℤ◌, ◌-ℤ◌, sym, refl, ap, ◌∙◌, subst, ⊎_elim, suc-mul, add_comm, zero-mul, mul-add, arith, length-append}
use lib.Signed.{lt_z}
use Rattle.std.proofs.lemmas.List.{length-map}
use Rattle.std.proofs.lemmas.Int.{ints}
use Rattle.std.proofs.lemmas.Bool.Decides.{nat_tests}
use Rattle.std.proofs.lemmas.Bool.{cases_eq, eq-eqb, ne_eqb}
use Rattle.std.specs.List.{AllByRecursion}
use Rattle.book.specs.Ledger.{sum_to}
use Rattle.book.proofs.Sums.{sum_same}
use Rattle.rank.specs.Claims.{is_delivering, is_receiving}
use Rattle.rank.specs.Order.{insert}
use Rattle.register.specs.declared.line.Line.{Line}
use Rattle.rules.specs.declared.figures.Member.{Member}
use Rattle.rules.specs.declared.figures.Size.{Size}
use Rattle.register.specs.declared.Register.{Register}
use Rattle.rules.specs.declared.figures.Figures.{Figures}
use Rattle.rules.specs.State.{State, member, position, above, below, put_member}
use Rattle.register.specs.Lines.{line}
use Rattle.rules.specs.Run.{Before, Source, own, from_collateral, from_contribution, from_reserve, Act, settle, serve, pay, pay_out, pass, mark_line, mark, charge, amount, record_paid, after_act, performed, goes_before, ordered, in_run, upto, from_one, each, delivering, receiving, all_members, all_securities, all_places, share, differences, deliveries_of, deliveries, servings, payments_of, payments, payouts, repayments_of, repayments, passings_of, passings, marks, chargings, PhaseActs, in_phases, steps, noon_run, two_run}
use Rattle.rules.specs.Events.{run_space}
use Rattle.rules.specs.Life.{moves}
use Rattle.rules.specs.Fit.{Shape}
use Rattle.rules.proofs.Written.{member_with}
use Rattle.rules.proofs.Acts.{MemberOf, OfRun, Later, shape_noted, shape_performed, later_performed, same_receiving, all_append, all_from_one, later_trans, performed_append, run_differences, run_deliveries, run_servings, run_payments, run_payouts, run_repayments}

abbrev one_if : Bool → ℕ
one_if b = cond b 1 0

one_if_most : (b : Bool) → one_if b ≤ 1
one_if_most true = omega arith
one_if_most false = omega arith

pub moves_append : (s : State) (k l : List Act) → moves s (k ++ l) ≡ moves s k + moves (performed s k) l
moves_append s [] l = omega arith
moves_append s (a ∷ k) l = let e = moves_append (after_act s a) k l in omega arith

-- At most one movement for each act.
pub moves_length : (s : State) (l : List Act) → moves s l ≤ length l
moves_length s [] = omega arith
moves_length s (a ∷ l) =
    let e = moves_length (after_act s a) l in
    let o = one_if_most (ltb 0 (amount s a)) in
    omega arith

-- Acts that never move anything.
Still : Act → Type 0
Still a = (s : State) → amount s a ≡ 0

still_moves : (s : State) (l : List Act) → AllByRecursion Still l → moves s l ≡ 0
unfolding Still
still_moves s [] o = refl
still_moves s (a ∷ l) o =
    let e = still_moves (after_act s a) l o.1 in
    let z : one_if (ltb 0 (amount s a)) ≡ 0 = ap (λ n. one_if (ltb 0 n)) (o.0 s) in
    omega arith

all_still : (act : ℕ → Act) → ((n : ℕ) → Still (act n)) → (xs : List ℕ) → AllByRecursion Still (map act xs)
all_still act h [] = tt
all_still act h (x ∷ xs) = (h x, all_still act h xs)

differences_still : (s : State) → moves s (differences s) ≡ 0
unfolding Still
differences_still s = still_moves s (differences s) (all_still settle (λ n s. refl) _)

marks_still : (s : State) → moves s (marks s) ≡ 0
unfolding Still
marks_still s = still_moves s (marks s) (all_append Still (map mark_line (all_places s)) (map mark (all_members s)) (all_still mark_line (λ n s. refl) (all_places s)) (all_still mark (λ n s. refl) (all_members s)))

chargings_still : (s : State) → moves s (chargings s) ≡ 0
unfolding Still
chargings_still s = still_moves s (chargings s) (all_still charge (λ n s. refl) _)

-- Lengths of the lists that the phases go over.
length_each : {A B : Type 0} (f : A → List B) (n : ℕ) → ((x : A) → length (f x) ≡ n) → (xs : List A) → length (each f xs) ≡ length xs * n
length_each f n h [] = sym (zero-mul n)
length_each f n h (x ∷ xs) =
    let e = length_each f n h xs in
    let a = length-append (f x) (each f xs) in
    let b = h x in
    let c : suc (length xs) * n ≡ n + length xs * n = suc-mul (length xs) n ∙ add_comm (length xs * n) n in
    omega arith

length_upto : (n : ℕ) → length (upto n) ≡ n
length_upto zero = refl
length_upto (suc n) = let e = length_upto n in let a = length-append (upto n) (n ∷ []) in omega arith

length_from_one : (n : ℕ) → length (from_one n) ≡ n
length_from_one n = length-map (upto n) suc ∙ length_upto n

-- The lines that a run orders, counted.
abbrev counted : (Line → Bool) → Register → ℕ → ℕ
counted p g n = sum_to n (λ i. one_if (p (line g i)))

length_insert : {A : Type 0} (goes : A → A → Bool) (x : A) (xs : List A) → length (insert goes x xs) ≡ suc (length xs)
length_insert goes x [] = refl
length_insert goes x (y ∷ ys) =
    let e = length_insert goes x ys in
    elim (goes x y) as (λ b. length (cond b (x ∷ y ∷ ys) (y ∷ insert goes x ys)) ≡ suc (length (y ∷ ys))) [ true ↦ refl | false ↦ ap suc e ]

length_ordered : (rank : Before) (g : Register) (p : Line → Bool) (n : ℕ) → length (ordered rank g p n) ≡ counted p g n
length_ordered rank g p zero = refl
length_ordered rank g p (suc n) =
    let e = length_ordered rank g p n in
    let goes : ℕ → ℕ → Bool = λ i j. goes_before rank (line g i) (line g j) in
    let i = length_insert goes n (ordered rank g p n) in
    elim (p (line g n)) as (λ b. length (cond b (insert goes n (ordered rank g p n)) (ordered rank g p n)) ≡ counted p g n + one_if b) [ true ↦ omega arith | false ↦ omega arith ]

-- No line both delivers and receives.
one_side : (a b d : Bool) → (a ≡ true → b ≡ true → ⊥) → 2 * one_if (a && d) + one_if (b && d) ≤ 2
one_side true true d h = absurd (h refl refl)
one_side true false true h = omega arith
one_side true false false h = omega arith
one_side false true true h = omega arith
one_side false true false h = omega arith
one_side false false d h = omega arith

not_both : (z : ℤ) → lt_z (pos 0) z ≡ true → lt_z z (pos 0) ≡ true → ⊥
not_both z p q = grind (arith, nat_tests)

both_sides : (f : Figures) (n : ℕ) → 2 * counted (delivering f) f.register n + counted (receiving f) f.register n ≤ 2 * n
both_sides f zero = omega arith
both_sides f (suc n) =
    let e = both_sides f n in
    let l = line f.register n in
    let o = one_side (is_delivering l.claim) (is_receiving l.claim) (leb l.claim.key.due f.clock.day) (not_both l.claim.quantity) in
    omega arith

moves_deliveries : (rank : Before) (s : State) → moves s (deliveries rank s) ≤ 2 * counted (delivering s.figures) s.figures.register s.figures.register.count
moves_deliveries rank s =
    let m = moves_length s (deliveries rank s) in
    let e = length_each deliveries_of 2 (λ i. refl) (in_run rank s.figures (delivering s.figures)) in
    let c = length_ordered rank s.figures.register (delivering s.figures) s.figures.register.count in
    omega arith

moves_servings : (rank : Before) (s : State) → moves s (servings rank s) ≤ counted (receiving s.figures) s.figures.register s.figures.register.count
moves_servings rank s =
    let m = moves_length s (servings rank s) in
    let e = length-map (in_run rank s.figures (receiving s.figures)) serve in
    let c = length_ordered rank s.figures.register (receiving s.figures) s.figures.register.count in
    omega arith

-- The lines that receive are the same later in the run.
counted_later : (g e : Figures) → Later g e → counted (receiving e) e.register e.register.count ≡ counted (receiving g) g.register g.register.count
counted_later g e l =
    sum_same e.register.count _ _ (λ i b. ap one_if (same_receiving g e l i)) ∙ ap (counted (receiving g) g.register) l.count

-- Paying leaves what a member is to be paid as it is, and lowers what it is to pay. Paying out lowers what it is to be paid.
above_less : (z w : ℤ) (x : ℕ) → w ≡ z -ℤ pos x → above w ≤ above z
above_less (pos a) (pos b) x e = omega (arith, ints, e)
above_less (pos a) (negsuc b) x e = omega arith
above_less (negsuc a) (pos b) x e = omega (arith, ints, e)
above_less (negsuc a) (negsuc b) x e = omega arith

below_same : (z w : ℤ) (x : ℕ) → x ≤ above z → w ≡ z -ℤ pos x → below w ≡ below z
below_same (pos a) (pos b) x l e = refl
below_same (pos a) (negsuc b) x l e = omega (arith, ints, e)
below_same (negsuc a) (pos b) x l e = omega (arith, ints, e)
below_same (negsuc a) (negsuc b) x l e = omega (arith, ints, e)

below_less : (z w : ℤ) (x : ℕ) → w ≡ z +ℤ pos x → below w ≤ below z
below_less (pos a) (pos b) x e = omega arith
below_less (pos a) (negsuc b) x e = omega (arith, ints, e)
below_less (negsuc a) (pos b) x e = omega arith
below_less (negsuc a) (negsuc b) x e = omega (arith, ints, e)

position_paid : (r : Member) (from : Source) (x : ℕ) → (record_paid r from x).position ≡ r.position -ℤ pos x
position_paid r own x = refl
position_paid r from_collateral x = refl
position_paid r from_contribution x = refl
position_paid r from_reserve x = refl

-- A position after one member's record is written: that member's, or another's as it was.
position_with : (f : Figures) (m : ℕ) (r : Member) → m < length f.records → (P : ℕ → ℤ → Type 0) → P m r.position → ((k : ℕ) → P k (position f k))
    → (k : ℕ) → P k (position (put_member f m r) k)
position_with f m r l P here there k =
    subst (λ (x : Member). P k x.position) (sym (member_with f m r l k))
    (⊎_elim
    (λ (e : k ≡ m). subst (λ b. P k (cond b r (member f k)).position) (sym (eq-eqb k m e)) (subst (λ (n : ℕ). P n r.position) (sym e) here))
    (λ (d : k ≡ m → ⊥). subst (λ b. P k (cond b r (member f k)).position) (sym (ne_eqb k m d)) (there k))
    (cases_eq k m))

-- What payments and payouts keep: no member is to pay more, none is to be paid more.
record Less (g e : Figures) : Type 0 where
  above_less : (k : ℕ) → above (position e k) ≤ above (position g k)
  below_less : (k : ℕ) → below (position e k) ≤ below (position g k)
  size : e.size ≡ g.size

less_same : (g : Figures) → Less g g
less_same g = record { above_less = λ k. omega arith; below_less = λ k. omega arith; size = refl }

less_trans : (f g e : Figures) → Less f g → Less g e → Less f e
less_trans f g e p q = record {
  above_less = λ k. let a = p.above_less k in let b = q.above_less k in omega arith;
  below_less = λ k. let a = p.below_less k in let b = q.below_less k in omega arith;
  size = q.size ∙ p.size;
}

in_records : (f : Figures) (m : ℕ) → Shape f → MemberOf f m → m < length f.records
in_records f m h o = let a = h.records in let b = h.few_members in let c = o.1 in omega arith

less_pay : (s : State) (m : ℕ) (from : Source) → Shape s.figures → MemberOf s.figures m → Less s.figures (after_act s (pay m from)).figures
less_pay s m from h o =
    let f = s.figures in
    let x = amount s (pay m from) in
    let r = record_paid (member f m) from x in
    let l = in_records f m h o in
    let e = position_paid (member f m) from x in
    record {
      above_less = position_with f m r l (λ k z. above z ≤ above (position f k)) (above_less (position f m) r.position x e) (λ k. omega arith);
      below_less = position_with f m r l (λ k z. below z ≤ below (position f k))
          (let b : x ≤ above (position f m) = omega arith in let q = below_same (position f m) r.position x b e in omega arith) (λ k. omega arith);
      size = refl;
    }

less_pay_out : (s : State) (m n : ℕ) → Shape s.figures → MemberOf s.figures m
    → (k : ℕ) → below (position (after_act s (pay_out m n)).figures k) ≤ below (position s.figures k)
less_pay_out s m n h o =
    let f = s.figures in
    position_with f m _ (in_records f m h o) (λ k z. below z ≤ below (position f k)) (below_less (position f m) _ (amount s (pay_out m n)) refl) (λ k. omega arith)

-- A payment is made only where the member is to pay, a payout only where it is to be paid.
one_if_less : (a b : ℕ) → a ≤ b → one_if (ltb 0 a) ≤ one_if (ltb 0 b)
one_if_less a b l = grind (arith, nat_tests)

four_if : ℤ → ℕ
four_if z = 4 * one_if (ltb 0 (above z))

one_payment : (g : Figures) (s : State) (m : ℕ) (from : Source) → Less g s.figures → one_if (ltb 0 (amount s (pay m from))) ≤ one_if (ltb 0 (above (position g m)))
one_payment g s m from l =
    one_if_less (amount s (pay m from)) (above (position g m)) (let a = l.above_less m in omega arith)

member_later : (g e : Figures) → Less g e → (m : ℕ) → MemberOf g m → MemberOf e m
member_later g e l m o = (o.0, subst (λ (z : Size). m ≤ z.members) (sym l.size) o.1)

-- One act after another of a list, each in the state that the ones before it leave.
pay_on : (g : Figures) (s : State) (m : ℕ) (from : Source) → Shape s.figures → MemberOf g m → Less g s.figures
    → Shape (after_act s (pay m from)).figures × Less g (after_act s (pay m from)).figures
pay_on g s m from h o l = (
  shape_noted s.figures (pay m from) (amount s (pay m from)) h,
  less_trans g s.figures _ l (less_pay s m from h (member_later g s.figures l m o)),
)

payments_few : (g : Figures) (s : State) (m : ℕ) → Shape s.figures → MemberOf g m → Less g s.figures
    → (moves s (payments_of m) ≤ four_if (position g m)) × (Shape (performed s (payments_of m)).figures × Less g (performed s (payments_of m)).figures)
unfolding four_if
payments_few g s m h o l =
    let p1 = pay_on g s m own h o l in
    let s1 = after_act s (pay m own) in
    let p2 = pay_on g s1 m from_collateral p1.0 o p1.1 in
    let s2 = after_act s1 (pay m from_collateral) in
    let p3 = pay_on g s2 m from_contribution p2.0 o p2.1 in
    let s3 = after_act s2 (pay m from_contribution) in
    let p4 = pay_on g s3 m from_reserve p3.0 o p3.1 in
    let a = one_payment g s m own l in
    let b = one_payment g s1 m from_collateral p1.1 in
    let c = one_payment g s2 m from_contribution p2.1 in
    let d = one_payment g s3 m from_reserve p3.1 in
    (omega arith, p4)

-- A sum over a list.
abbrev sum_of : (ℕ → ℕ) → List ℕ → ℕ
sum_of n [] = 0
sum_of n (x ∷ xs) = n x + sum_of n xs

all_payments : (g : Figures) (s : State) (ms : List ℕ) → Shape s.figures → AllByRecursion (MemberOf g) ms → Less g s.figures
    → (moves s (each payments_of ms) ≤ sum_of (λ m. four_if (position g m)) ms) × (Shape (performed s (each payments_of ms)).figures × Less g (performed s (each payments_of ms)).figures)
all_payments g s [] h o l = (omega arith, (h, l))
all_payments g s (m ∷ ms) h o l =
    let one = payments_few g s m h o.0 l in
    let rest = all_payments g (performed s (payments_of m)) ms one.1.0 o.1 one.1.1 in
    let e = moves_append s (payments_of m) (each payments_of ms) in
    let a = one.0 in
    let b = rest.0 in
    let q = performed_append s (payments_of m) (each payments_of ms) in
    (omega arith, subst (λ (t : State). Shape t.figures × Less g t.figures) (sym q) rest.1)

all_payouts : (g : Figures) (s : State) (n : ℕ → ℕ) (ms : List ℕ) → Shape s.figures → AllByRecursion (MemberOf s.figures) ms
    → ((k : ℕ) → below (position s.figures k) ≤ below (position g k))
    → moves s (map (λ m. pay_out m (n m)) ms) ≤ sum_of (λ m. one_if (ltb 0 (below (position g m)))) ms
all_payouts g s n [] h o l = omega arith
all_payouts g s n (m ∷ ms) h o l =
    let t = after_act s (pay_out m (n m)) in
    let a = one_if_less (amount s (pay_out m (n m))) (below (position g m)) (let b = l m in omega arith) in
    let r = all_payouts g t n ms (shape_noted s.figures (pay_out m (n m)) (amount s (pay_out m (n m))) h) o.1
    (λ k. let b = less_pay_out s m (n m) h o.0 k in let c = l k in omega arith) in
    omega arith

-- Nobody is both to pay and to be paid.
pay_or_be_paid : (z : ℤ) → four_if z + one_if (ltb 0 (below z)) ≤ 4
unfolding four_if
pay_or_be_paid (pos n) = let o = one_if_most (ltb 0 n) in omega arith
pay_or_be_paid (negsuc n) = let o = one_if_most (ltb 0 (suc n)) in omega arith

four_each : (g : Figures) (ms : List ℕ) → sum_of (λ m. four_if (position g m)) ms + sum_of (λ m. one_if (ltb 0 (below (position g m)))) ms ≤ 4 * length ms
four_each g [] = omega arith
four_each g (m ∷ ms) = let e = four_each g ms in let o = pay_or_be_paid (position g m) in omega arith

-- Payments and payouts together move at most four times for each member.
payments_and_payouts : (s : State) → Shape s.figures
    → moves s (payments s) + moves (performed s (payments s)) (payouts (performed s (payments s))) ≤ 4 * s.figures.size.members
payments_and_payouts s h =
    let t = performed s (payments s) in
    let ms = all_members s in
    let o : AllByRecursion (MemberOf s.figures) ms = all_from_one (MemberOf s.figures) s.figures.size.members (λ m a b. (a, b)) in
    let p = all_payments s.figures s ms h o (less_same s.figures) in
    let same : t.figures.size ≡ s.figures.size = p.1.1.size in
    let q : moves t (map (λ m. pay_out m (share t m)) (all_members t)) ≤ sum_of (λ m. one_if (ltb 0 (below (position s.figures m)))) (all_members t)
    = all_payouts s.figures t (share t) (all_members t) p.1.0 (all_from_one (MemberOf t.figures) t.figures.size.members (λ m a b. (a, b))) p.1.1.below_less in
    let r : sum_of (λ m. one_if (ltb 0 (below (position s.figures m)))) (all_members t) ≡ sum_of (λ m. one_if (ltb 0 (below (position s.figures m)))) ms
    = ap (λ (z : Size). sum_of (λ m. one_if (ltb 0 (below (position s.figures m)))) (from_one z.members)) same in
    let f = four_each s.figures ms in
    let n : length ms ≡ s.figures.size.members = length_from_one s.figures.size.members in
    let a = p.0 in
    omega arith

moves_repayments : (s : State) → moves s (repayments s) ≤ 2 * s.figures.size.members
moves_repayments s =
    let m = moves_length s (repayments s) in
    let e = length_each repayments_of 2 (λ i. refl) (all_members s) in
    let n = length_from_one s.figures.size.members in
    omega arith

moves_passings : (s : State) → moves s (passings s) ≤ s.figures.size.members * s.figures.size.securities
moves_passings s =
    let k = s.figures.size.securities in
    let m = moves_length s (passings s) in
    let e = length_each (passings_of s) k (λ i. length-map (all_securities s) (pass i) ∙ length_from_one k) (all_members s) in
    let n : length (all_members s) * k ≡ s.figures.size.members * k = ap (λ z. z * k) (length_from_one s.figures.size.members) in
    omega arith

-- A phase's acts are acts of a run, so what it leaves has the shape and comes later.
record Onward (s t : State) : Type 0 where
  shape : Shape t.figures
  later : Later s.figures t.figures

onward : (s : State) (l : List Act) → Shape s.figures → AllByRecursion (OfRun s.figures) l → Onward s (performed s l)
onward s l h o = record { shape = shape_performed s l h; later = later_performed s l h o }

-- Two movements for each line.
lines_few : (rank : Before) (s : State) → Shape s.figures
    → moves s (deliveries rank s) + moves (performed s (deliveries rank s)) (servings rank (performed s (deliveries rank s))) ≤ 2 * s.figures.register.count
lines_few rank s h =
    let t = performed s (deliveries rank s) in
    let o = onward s (deliveries rank s) h (run_deliveries rank s) in
    let d = moves_deliveries rank s in
    let r = moves_servings rank t in
    let c = counted_later s.figures t.figures o.later in
    let b = both_sides s.figures s.figures.register.count in
    omega arith

-- Six for each member, and one for each security.
members_few : (s : State) → Shape s.figures → (t : State) → t.figures.size ≡ s.figures.size → (u : State) → u.figures.size ≡ s.figures.size
    → moves s (payments s) + moves (performed s (payments s)) (payouts (performed s (payments s))) + moves t (repayments t) + moves u (passings u)
    ≤ s.figures.size.members * (s.figures.size.securities + 6)
members_few s h t et u eu =
    let m = s.figures.size.members in
    let k = s.figures.size.securities in
    let a = payments_and_payouts s h in
    let b : moves t (repayments t) ≤ 2 * m = subst (λ (z : Size). moves t (repayments t) ≤ 2 * z.members) et (moves_repayments t) in
    let c : moves u (passings u) ≤ m * k = subst (λ (z : Size). moves u (passings u) ≤ z.members * z.securities) eu (moves_passings u) in
    let e = mul-add m k 6 in
    omega arith

pub steps_few : (rank : Before) (last : PhaseActs) → ((s : State) → moves s (last s) ≡ 0) → (s : State) → Shape s.figures
    → moves s (in_phases (steps rank (last ∷ [])) s) ≤ run_space s.figures
steps_few rank last still s h =
    let s1 = performed s (deliveries rank s) in
    let o1 = onward s (deliveries rank s) h (run_deliveries rank s) in
    let s2 = performed s1 (servings rank s1) in
    let o2 = onward s1 (servings rank s1) o1.shape (run_servings rank s1) in
    let s3 = performed s2 (payments s2) in
    let o3 = onward s2 (payments s2) o2.shape (run_payments s2) in
    let s4 = performed s3 (payouts s3) in
    let o4 = onward s3 (payouts s3) o3.shape (run_payouts s3) in
    let s5 = performed s4 (repayments s4) in
    let o5 = onward s4 (repayments s4) o4.shape (run_repayments s4) in
    let s6 = performed s5 (passings s5) in
    let l4 = later_trans _ _ _ o3.later o4.later in
    let l5 = later_trans _ _ _ l4 o5.later in
    let a = lines_few rank s h in
    let b = members_few s2 o2.shape s4 l4.size s5 l5.size in
    let z : s2.figures.size ≡ s.figures.size = o2.later.size ∙ o1.later.size in
    let b' : moves s2 (payments s2) + moves s3 (payouts s3) + moves s4 (repayments s4) + moves s5 (passings s5) ≤ s.figures.size.members * (s.figures.size.securities + 6)
    = subst (λ (q : Size). moves s2 (payments s2) + moves s3 (payouts s3) + moves s4 (repayments s4) + moves s5 (passings s5) ≤ q.members * (q.securities + 6)) z b in
    let m1 = moves_append s (deliveries rank s) (in_phases (servings rank ∷ payments ∷ payouts ∷ repayments ∷ passings ∷ last ∷ []) s1) in
    let m2 = moves_append s1 (servings rank s1) (in_phases (payments ∷ payouts ∷ repayments ∷ passings ∷ last ∷ []) s2) in
    let m3 = moves_append s2 (payments s2) (in_phases (payouts ∷ repayments ∷ passings ∷ last ∷ []) s3) in
    let m4 = moves_append s3 (payouts s3) (in_phases (repayments ∷ passings ∷ last ∷ []) s4) in
    let m5 = moves_append s4 (repayments s4) (in_phases (passings ∷ last ∷ []) s5) in
    let m6 = moves_append s5 (passings s5) (in_phases (last ∷ []) s6) in
    let m7 = moves_append s6 (last s6) [] in
    let e = still s6 in
    omega arith

pub noon_few : (rank : Before) (s : State) → Shape s.figures → moves s (in_phases (noon_run rank) s) ≤ run_space s.figures
noon_few rank s h =
    let t = performed s (differences s) in
    let o = onward s (differences s) h (run_differences s) in
    let a = steps_few rank marks marks_still t o.shape in
    let c : run_space t.figures ≡ run_space s.figures
    = ap (λ (q : Size). 2 * t.figures.register.count + q.members * (q.securities + 6)) o.later.size ∙ ap (λ n. 2 * n + s.figures.size.members * (s.figures.size.securities + 6)) o.later.count in
    let m = moves_append s (differences s) (in_phases (steps rank (marks ∷ [])) t) in
    let z = differences_still s in
    omega arith

pub two_few : (rank : Before) (s : State) → Shape s.figures → moves s (in_phases (two_run rank) s) ≤ run_space s.figures
two_few rank s h = steps_few rank chargings chargings_still s h
