-- The phases of a run: each finds what its acts ask for, so it keeps what holds within a run, and its postings are taken.
use Rattle.std.proofs.Common.{◌≡◌, ℕ, zero, suc, ◌+◌, ◌*◌, ◌/◌, ◌<◌, ◌≤◌, List, [], ◌∷◌, map, sum_by, sym, refl, ap, ◌∙◌, subst, ⊎_elim, add-mul, div-mul-le_self, le_of_mul-le-mul_right, arith}
use native.Mathlib.Nat.{div-zero}
use Rattle.std.proofs.lemmas.Nat.{mul-le}
use Rattle.std.proofs.lemmas.Bool.{cases_eq}
use Rattle.std.proofs.lemmas.List.Sums.{sum_by-cons, sum_by_push}
use Rattle.std.specs.List.{AllByRecursion}
use Rattle.book.specs.Ledger.{sum_to}
use Rattle.book.proofs.Sums.{sum_zero}
use Rattle.rules.specs.declared.event.Event.TheVariants.{Noon, Two}
use Rattle.rules.specs.State.{State, pool, cash, position, below}
use Rattle.rules.specs.Run.{Act, settle, serve, pay_out, pass, mark_line, mark, charge, amount, after_act, performed, Along, Before, PhaseActs, in_phases, upto, each, all_members, all_securities, all_places, in_run, due_today, delivering, receiving, need, share, differences, deliveries_of, deliveries, servings, payments_of, payments, payouts, repayments_of, repayments, passings_of, passings, marks, chargings, noon_run, two_run}
use Rattle.rules.specs.Events.{acts}
use Rattle.rules.specs.Life.{PostingTaken}
use Rattle.rules.proofs.Acts.{OfRun, MemberOf, later_noted, all_of_run, all_map, all_append, all_each, all_from_one, performed_append, along_append, run_differences, run_deliveries, run_servings, run_payments, run_payouts, run_repayments, run_passings, run_marks, run_chargings}
use Rattle.rules.proofs.Invariants.{Working}
use Rattle.rules.proofs.Works.{Ready, act_works, act_taken, held_from}

-- Whole parts of shares in c, by parts of d, add to at most c.
floors : (n : ℕ) (f : ℕ → ℕ) (c d : ℕ) → sum_to n (λ k. f k * c / d) * d ≤ sum_to n f * c
floors zero f c d = omega arith
floors (suc n) f c d =
    let a = floors n f c d in
    let b = div-mul-le_self (f n * c) d in
    let e = add-mul (sum_to n (λ k. f k * c / d)) (f n * c / d) d in
    let g = add-mul (sum_to n f) (f n) c in
    omega arith

pub floors_within : (n : ℕ) (f : ℕ → ℕ) (c d : ℕ) → sum_to n f ≤ d → sum_to n (λ k. f k * c / d) ≤ c
floors_within n f c d h =
    ⊎_elim
    (λ (e : d ≡ 0). let z = sum_zero n (λ k. f k * c / d) (λ k. ap (λ x. f k * c / x) e ∙ div-zero (f k * c)) in omega arith)
    (λ (p : d ≡ 0 → ⊥).
    let a = floors n f c d in
    let b = mul-le (sum_to n f) c d c h (omega arith) in
    let e : sum_to n (λ k. f k * c / d) * d ≤ c * d = omega arith in
    le_of_mul-le-mul_right e (omega arith))
    (cases_eq d 0)

-- f 1 + .. + f n is no more than f 0 + .. + f n.
sum_from_one : (n : ℕ) (f : ℕ → ℕ) → sum_to n (λ k. f (suc k)) + f 0 ≡ sum_to (suc n) f
sum_from_one zero f = refl
sum_from_one (suc n) f = let a = sum_from_one n f in omega arith

sum_over_next : (f : ℕ → ℕ) (xs : List ℕ) → sum_by f (map suc xs) ≡ sum_by (λ k. f (suc k)) xs
sum_over_next f [] = refl
sum_over_next f (x ∷ xs) =
    let a = sum_by-cons f (suc x) (map suc xs) in let b = sum_by-cons (λ k. f (suc k)) x xs in let c = sum_over_next f xs in omega arith

sum_over_upto : (f : ℕ → ℕ) (n : ℕ) → sum_by f (upto n) ≡ sum_to n f
sum_over_upto f zero = refl
sum_over_upto f (suc n) = let a = sum_by_push f (upto n) n in let b = sum_over_upto f n in omega arith

-- Members are paid out one after the other: the pool holds what is still to come.
pay_outs_ready : (n : ℕ → ℕ) (ms : List ℕ) (s : State) → AllByRecursion (MemberOf s.figures) ms → Working s → sum_by n ms ≤ s.held pool cash
    → Along Ready s (map (λ m. pay_out m (n m)) ms)
pay_outs_ready n [] s o w h = tt
pay_outs_ready n (m ∷ ms) s o w h =
    let all = sum_by-cons n m ms in
    let r : amount s (pay_out m (n m)) ≤ s.held pool cash = omega arith in
    let p : 0 < m = o.0.0 in
    let left : (after_act s (pay_out m (n m))).held pool cash + amount s (pay_out m (n m)) ≡ s.held pool cash
    = held_from s (pay_out m (n m)) o.0 r w (λ e. omega arith) cash in
    (r, pay_outs_ready n ms (after_act s (pay_out m (n m))) o.1 (act_works s (pay_out m (n m)) o.0 r w) (omega arith))

shares_within : (s : State) → sum_by (share s) (all_members s) ≤ s.held pool cash
shares_within s =
    let a = sum_over_next (share s) (upto s.figures.size.members) in
    let b = sum_over_upto (λ k. share s (suc k)) s.figures.size.members in
    let c = sum_from_one s.figures.size.members (λ m. below (position s.figures m)) in
    let d = floors_within s.figures.size.members (λ k. below (position s.figures (suc k))) (s.held pool cash) (need s) (omega arith) in
    omega arith

pub payouts_ready : (s : State) → Working s → Along Ready s (payouts s)
payouts_ready s w =
    pay_outs_ready (share s) (all_members s) s (all_from_one (MemberOf s.figures) s.figures.size.members (λ m a b. (a, b))) w (shares_within s)

-- What holds of each act that finds a working state and what it asks for, holds along a list of such acts.
pub along_working : (P : State → Act → Type 0) → ((s : State) (a : Act) → OfRun s.figures a → Ready s a → Working s → P s a)
    → (s : State) (l : List Act) → AllByRecursion (OfRun s.figures) l → Along Ready s l → Working s → Along P s l
along_working P holds s [] o r w = tt
along_working P holds s (a ∷ l) o r w = (
  holds s a o.0 r.0 w,
  along_working P holds (after_act s a) l (all_of_run _ _ (later_noted s.figures a (amount s a) w.shape o.0) l o.1) r.1 (act_works s a o.0 r.0 w),
)

pub performed_works : (s : State) (l : List Act) → AllByRecursion (OfRun s.figures) l → Along Ready s l → Working s → Working (performed s l)
performed_works s [] o r w = w
performed_works s (a ∷ l) o r w =
    performed_works (after_act s a) l (all_of_run _ _ (later_noted s.figures a (amount s a) w.shape o.0) l o.1) r.1 (act_works s a o.0 r.0 w)

-- Acts other than pay-outs ask for nothing.
abbrev AsksNothing : Act → Type 0
AsksNothing a = (s : State) → Ready s a

ready_along : (s : State) (l : List Act) → AllByRecursion AsksNothing l → Along Ready s l
ready_along s [] n = tt
ready_along s (a ∷ l) n = (n.0 s, ready_along (after_act s a) l n.1)

all_any : {A : Type 0} (P : A → Type 0) → ((x : A) → P x) → (xs : List A) → AllByRecursion P xs
all_any P f [] = tt
all_any P f (x ∷ xs) = (f x, all_any P f xs)

ready_map : {A : Type 0} (f : A → Act) → ((x : A) → AsksNothing (f x)) → (xs : List A) → AllByRecursion AsksNothing (map f xs)
ready_map f n xs = all_map AsksNothing f xs (all_any (λ x. AsksNothing (f x)) n xs)

ready_each : {A : Type 0} (f : A → List Act) → ((x : A) → AllByRecursion AsksNothing (f x)) → (xs : List A) → AllByRecursion AsksNothing (each f xs)
ready_each f n xs = all_each AsksNothing f xs (all_any (λ x. AllByRecursion AsksNothing (f x)) n xs)

-- A phase whose acts are of the run and find what they ask for.
abbrev pub FitPhase : PhaseActs → Type 0
FitPhase p = (s : State) → Working s → AllByRecursion (OfRun s.figures) (p s) × Along Ready s (p s)

pub phase_works : (p : PhaseActs) → FitPhase p → (s : State) → Working s → Working (performed s (p s))
phase_works p f s w = let o = f s w in performed_works s (p s) o.0 o.1 w

pub phase_taken : (p : PhaseActs) → FitPhase p → (s : State) → Working s → Along PostingTaken s (p s)
phase_taken p f s w = let o = f s w in along_working PostingTaken act_taken s (p s) o.0 o.1 w

pub fit_differences : FitPhase differences
fit_differences s w = (run_differences s, ready_along s (differences s) (ready_map settle (λ i s. tt) (due_today s.figures)))

pub fit_deliveries : (rank : Before) → FitPhase (deliveries rank)
fit_deliveries rank s w =
    (run_deliveries rank s, ready_along s (deliveries rank s) (ready_each deliveries_of (λ i. ((λ s. tt), ((λ s. tt), tt))) (in_run rank s.figures (delivering s.figures))))

pub fit_servings : (rank : Before) → FitPhase (servings rank)
fit_servings rank s w =
    (run_servings rank s, ready_along s (servings rank s) (ready_map serve (λ i s. tt) (in_run rank s.figures (receiving s.figures))))

pub fit_payments : FitPhase payments
fit_payments s w =
    (run_payments s, ready_along s (payments s) (ready_each payments_of (λ m. ((λ s. tt), ((λ s. tt), ((λ s. tt), ((λ s. tt), tt))))) (all_members s)))

pub fit_payouts : FitPhase payouts
fit_payouts s w = (run_payouts s, payouts_ready s w)

pub fit_repayments : FitPhase repayments
fit_repayments s w = (run_repayments s, ready_along s (repayments s) (ready_each repayments_of (λ m. ((λ s. tt), ((λ s. tt), tt))) (all_members s)))

pub fit_passings : FitPhase passings
fit_passings s w =
    (run_passings s, ready_along s (passings s) (ready_each (passings_of s) (λ m. ready_map (pass m) (λ t s. tt) (all_securities s)) (all_members s)))

pub fit_marks : FitPhase marks
fit_marks s w = (
  run_marks s,
  ready_along s (marks s)
      (all_append AsksNothing (map mark_line (all_places s)) (map mark (all_members s))
      (ready_map mark_line (λ i s. tt) (all_places s)) (ready_map mark (λ m s. tt) (all_members s))),
)

pub fit_chargings : FitPhase chargings
fit_chargings s w = (run_chargings s, ready_along s (chargings s) (ready_map charge (λ m s. tt) (all_members s)))

-- Phases one after the other.
pub phases_work : (ps : List PhaseActs) → AllByRecursion FitPhase ps → (s : State) → Working s → Working (performed s (in_phases ps s))
phases_work [] f s w = w
phases_work (p ∷ ps) f s w =
    subst Working (sym (performed_append s (p s) (in_phases ps (performed s (p s)))))
    (phases_work ps f.1 (performed s (p s)) (phase_works p f.0 s w))

pub phases_taken : (ps : List PhaseActs) → AllByRecursion FitPhase ps → (s : State) → Working s → Along PostingTaken s (in_phases ps s)
phases_taken [] f s w = tt
phases_taken (p ∷ ps) f s w =
    along_append PostingTaken s (p s) (in_phases ps (performed s (p s))) (phase_taken p f.0 s w)
    (phases_taken ps f.1 (performed s (p s)) (phase_works p f.0 s w))

fit_noon : (rank : Before) → AllByRecursion FitPhase (noon_run rank)
fit_noon rank =
    (fit_differences, (fit_deliveries rank, (fit_servings rank, (fit_payments, (fit_payouts, (fit_repayments, (fit_passings, (fit_marks, tt))))))))

fit_two : (rank : Before) → AllByRecursion FitPhase (two_run rank)
fit_two rank =
    (fit_deliveries rank, (fit_servings rank, (fit_payments, (fit_payouts, (fit_repayments, (fit_passings, (fit_chargings, tt)))))))

pub noon_works : (rank : Before) (s : State) → Working s → Working (performed s (acts rank s Noon))
noon_works rank s w = phases_work (noon_run rank) (fit_noon rank) s w

pub noon_taken : (rank : Before) (s : State) → Working s → Along PostingTaken s (acts rank s Noon)
noon_taken rank s w = phases_taken (noon_run rank) (fit_noon rank) s w

pub two_works : (rank : Before) (s : State) → Working s → Working (performed s (acts rank s Two))
two_works rank s w = phases_work (two_run rank) (fit_two rank) s w

pub two_taken : (rank : Before) (s : State) → Working s → Along PostingTaken s (acts rank s Two)
two_taken rank s w = phases_taken (two_run rank) (fit_two rank) s w
