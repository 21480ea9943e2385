-- The bounds of the figures, kept by every event.
use Rattle.std.proofs.Common.{◌≡◌, ℕ, zero, suc, ◌+◌, ◌-◌, ◌*◌, ◌<◌, ◌≤◌, Bool, true, false, cond, not, eqb, leb, List, [], ◌∷◌, ◌++◌, map, length, get_or, replicate, nat_abs, sym, refl, ap, ◌∙◌, subst, ⊎_elim, arith, length-set}
use lib.ListN.{length-replicate, length-map}
use Rattle.std.specs.List.{AllByRecursion}
use Rattle.std.proofs.lemmas.List.{get_or-replicate, get_or_past, length_push}
use Rattle.std.proofs.lemmas.Bool.{cases_lt, cases_Bool, eqb-true, ltb-true, ltb-false, leb-true, leb-false, and_parts, or_parts, not-false, cond_both, cond-true, cond-false, both_ways}
use Rattle.book.specs.Refusals.{Refusal}
use Rattle.rank.specs.declared.claim.Claim.{Claim}
use Rattle.register.specs.declared.trade.Trade.{Trade}
use Rattle.rules.specs.declared.event.Event.{Event}
use Rattle.rules.specs.declared.event.Event.TheVariants.{Bring, Take, Endow, Pledge, Refund, Contribute, Novate, Price, Noon, Two, End, BuyIn, SellOut, CashSettle}
use Rattle.rules.specs.declared.fault.HouseFault.{HouseFault}
use Rattle.rules.specs.declared.fault.HouseFault.TheVariants.{NoMember, NoAsset, NoFlag, BadAmount, WrongPhase, Bound, BelowRequirement, NoPlace, LineTooLarge, PositionTooLarge, NoClose, NothingOpen, TooEarly, LastDay, UnfitBook, BadCounts, Book}
use Rattle.rules.specs.declared.figures.Phase.{Phase}
use Rattle.rules.specs.declared.figures.Phase.TheVariants.{Morning, Late, Shut}
use Rattle.rules.specs.declared.figures.Clock.{Clock}
use Rattle.rules.specs.declared.figures.Member.{Member}
use Rattle.rules.specs.declared.figures.Row.{Row}
use Rattle.rules.specs.declared.figures.Figures.{Figures}
use Rattle.rules.specs.Limits.{most_members, most_securities, last_day}
use Rattle.register.specs.Limits.{most_price, register_places}
use Rattle.book.specs.Faults.{from_one_to}
use Rattle.rules.specs.Faults.{Answer, refusal, answer_by, is_accepted}
use Rattle.rules.specs.State.{State, no_member, no_row, member, in_escrow, close, today, put_close, with_clock, opened_figures}
use Rattle.register.specs.Lines.{no_line, line, key, in_group}
use Rattle.rules.specs.Charges.{begins, failed_shares, failed_cash}
use Rattle.rules.specs.Run.{Before, Act, settle, give, give_escrow, serve, pay, pay_out, repay, pay_charges, pass, mark_line, mark, charge, compensate, close_line, require, line_served, amount, noted, after_act, performed, PhaseActs, in_phases, steps, noon_run, two_run, in_run, delivering, receiving, all_members, all_securities, all_places, upto, share, deliveries_of, deliveries, servings, payments_of, payments, payouts, repayments_of, repayments, passings_of, passings, marks, chargings, places_if, due_today}
use Rattle.rules.specs.Day.{traded_today, closings, requirements, cleared_day, ended_day, compensation, cash_settlements}
use Rattle.rules.specs.Events.{is_morning, is_late, is_shut, unpriced, trade_refusals, netting_refusals, event_refusals, answer, traded, effect}
use Rattle.rules.specs.Life.{Entry, taken, next}
use Rattle.rules.specs.Fit.{Shape, MemberFits, Bounds, most_weight, Fit, BoundsKept, most_compensation}
use Rattle.rules.proofs.Written.{get_or_with}
use Rattle.rules.proofs.Acts.{OfRun, later_line, all_each, all_map, all_append, all_weaken, all_places_if, performed_keeps, performed_append, run_differences, run_deliveries, run_servings, run_payments, run_payouts, run_repayments, run_passings, run_marks, run_chargings}
use Rattle.rules.proofs.FitActs.{fits_in, bounds_act, bounds_compensate}
use Rattle.rules.proofs.FitDay.{bounds_ended}
use Rattle.rules.proofs.FitNetting.{bounds_traded}

-- A phase whose acts are acts of a run, from whatever state.
abbrev PhaseOfRun : PhaseActs → Type 0
PhaseOfRun p = (s : State) → AllByRecursion (OfRun s.figures) (p s)

bounds_phases : (ps : List PhaseActs) → AllByRecursion PhaseOfRun ps → (s : State) → Bounds s.figures → Bounds (performed s (in_phases ps s)).figures
bounds_phases [] h s ok = ok
bounds_phases (p ∷ ps) h s ok =
    subst (λ (t : State). Bounds t.figures) (sym (performed_append s (p s) _))
    (bounds_phases ps h.1 (performed s (p s)) (performed_keeps (λ t. Bounds t.figures) bounds_act s (p s) ok.shape (h.0 s) ok))

steps_of_run : (rank : Before) (last : List PhaseActs) → AllByRecursion PhaseOfRun last → AllByRecursion PhaseOfRun (steps rank last)
steps_of_run rank last h = (run_deliveries rank, (run_servings rank, (run_payments, (run_payouts, (run_repayments, (run_passings, h))))))

-- An act that counts no fail.
abbrev Quiet : Act → Type 0
Quiet a = (f : Figures) (x : ℕ) → (noted f a x).fails ≡ f.fails

abbrev QuietPhase : PhaseActs → Type 0
QuietPhase p = (s : State) → AllByRecursion Quiet (p s)

all_any : {A : Type 0} (P : A → Type 0) (xs : List A) → ((x : A) → P x) → AllByRecursion P xs
all_any P [] h = tt
all_any P (x ∷ xs) h = (h x, all_any P xs h)

quiet_deliveries : (rank : Before) → QuietPhase (deliveries rank)
quiet_deliveries rank s = all_each Quiet deliveries_of _ (all_any _ (in_run rank s.figures (delivering s.figures)) (λ i. ((λ f x. refl), ((λ f x. refl), tt))))

quiet_servings : (rank : Before) → QuietPhase (servings rank)
quiet_servings rank s = all_map Quiet serve _ (all_any _ (in_run rank s.figures (receiving s.figures)) (λ i f x. refl))

quiet_payments : QuietPhase payments
quiet_payments s = all_each Quiet payments_of _ (all_any _ (all_members s) (λ m. ((λ f x. refl), ((λ f x. refl), ((λ f x. refl), ((λ f x. refl), tt))))))

quiet_payouts : QuietPhase payouts
quiet_payouts s = all_map Quiet (λ m. pay_out m (share s m)) _ (all_any _ (all_members s) (λ m f x. refl))

quiet_repayments : QuietPhase repayments
quiet_repayments s = all_each Quiet repayments_of _ (all_any _ (all_members s) (λ m. ((λ f x. refl), ((λ f x. refl), tt))))

quiet_passings : QuietPhase passings
quiet_passings s = all_each Quiet (passings_of s) _ (all_any _ (all_members s) (λ m. all_map Quiet (pass m) _ (all_any _ (all_securities s) (λ t f x. refl))))

quiet_marks : QuietPhase marks
quiet_marks s =
    all_append Quiet (map mark_line (all_places s)) (map mark (all_members s))
    (all_map Quiet mark_line _ (all_any _ (all_places s) (λ i f x. refl))) (all_map Quiet mark _ (all_any _ (all_members s) (λ m f x. refl)))

quiet_steps : (rank : Before) (last : List PhaseActs) → AllByRecursion QuietPhase last → AllByRecursion QuietPhase (steps rank last)
quiet_steps rank last h = (quiet_deliveries rank, (quiet_servings rank, (quiet_payments, (quiet_payouts, (quiet_repayments, (quiet_passings, h))))))

fails_performed : (s : State) (l : List Act) → AllByRecursion Quiet l → (performed s l).figures.fails ≡ s.figures.fails
fails_performed s [] h = refl
fails_performed s (a ∷ l) h = fails_performed (after_act s a) l h.1 ∙ h.0 s.figures (amount s a)

fails_phases : (ps : List PhaseActs) → AllByRecursion QuietPhase ps → (s : State) → (performed s (in_phases ps s)).figures.fails ≡ s.figures.fails
fails_phases [] h s = refl
fails_phases (p ∷ ps) h s =
    ap (λ (t : State). t.figures.fails) (performed_append s (p s) _) ∙ (fails_phases ps h.1 (performed s (p s)) ∙ fails_performed s (p s) (h.0 s))

quiet_noon : (rank : Before) → AllByRecursion QuietPhase (noon_run rank)
quiet_noon rank =
    ((λ s. all_map Quiet settle _ (all_any _ (due_today s.figures) (λ i f x. refl))), quiet_steps rank (marks ∷ []) (quiet_marks, tt))

-- A charge counts at most two.
fails_charged : (s : State) (ms : List ℕ) → (performed s (map charge ms)).figures.fails ≤ s.figures.fails + 2 * length ms
fails_charged s [] = omega arith
fails_charged s (m ∷ ms) =
    let a = fails_charged (after_act s (charge m)) ms in
    let b = one (begins (member s.figures m).shares (failed_shares s.figures m)) in
    let c = one (begins (member s.figures m).cash (failed_cash s.figures m)) in
    omega arith
  where
    one : (b : Bool) → cond b 1 0 ≤ 1
    one true = omega arith
    one false = omega arith

performed_phases : (ps qs : List PhaseActs) (s : State)
    → performed s (in_phases (ps ++ qs) s) ≡ performed (performed s (in_phases ps s)) (in_phases qs (performed s (in_phases ps s)))
performed_phases [] qs s = refl
performed_phases (p ∷ ps) qs s =
    performed_append s (p s) _
    ∙ (performed_phases ps qs (performed s (p s)) ∙ ap (λ (t : State). performed t (in_phases qs t)) (sym (performed_append s (p s) _)))

length_upto : (n : ℕ) → length (upto n) ≡ n
length_upto zero = refl
length_upto (suc n) = length_push (upto n) n ∙ (let a = length_upto n in omega arith)

fails_two : (rank : Before) (s : State) → Bounds s.figures → (performed s (in_phases (two_run rank) s)).figures.fails ≤ s.figures.fails + 48
fails_two rank s ok =
    let t : State = performed s (in_phases (steps rank []) s) in
    let a : t.figures.fails ≡ s.figures.fails = fails_phases (steps rank []) (quiet_steps rank [] tt) s in
    let b = fails_charged t (all_members t) in
    let c : length (all_members t) ≡ t.figures.size.members = length-map (upto t.figures.size.members) suc ∙ length_upto t.figures.size.members in
    let d = (bounds_phases (steps rank []) (steps_of_run rank [] tt) s ok).shape.few_members in
    let e = ap (λ (z : State). z.figures.fails) (performed_phases (steps rank []) (chargings ∷ []) s ∙ performed_append t (chargings t) []) in
    omega arith

-- Another phase of the day.
bounds_phase : (f : Figures) (p : Phase) → Bounds f → Bounds (with_clock f (record { day = today f; phase = p }))
bounds_phase f p ok = record {
  shape = record {
    some_member = o.some_member;
    few_members = o.few_members;
    some_security = o.some_security;
    few_securities = o.few_securities;
    some_day = o.some_day;
    last = o.last;
    few_lines = o.few_lines;
    places = o.places;
    records = o.records;
    rows = o.rows;
    cells = o.cells;
    closes = o.closes;
  };
  lines = λ i l. fits_in f (with_clock f (record { day = today f; phase = p })) _ refl refl (ok.lines i l);
  members = ok.members;
  prices = ok.prices;
  weights = ok.weights;
  escrow = ok.escrow;
}
  where
    o : Shape f
    o = ok.shape

-- No act moves the clock.
clock_noted : (f : Figures) (a : Act) (x : ℕ) → (noted f a x).clock ≡ f.clock
clock_noted f (settle i) x = refl
clock_noted f (give i) x = refl
clock_noted f (give_escrow i) x = refl
clock_noted f (serve i) x = refl
clock_noted f (pay m from) x = refl
clock_noted f (pay_out m n) x = refl
clock_noted f (repay m) x = refl
clock_noted f (pay_charges m) x = refl
clock_noted f (pass m t) x = refl
clock_noted f (mark_line i) x = refl
clock_noted f (mark m) x = refl
clock_noted f (charge m) x = refl
clock_noted f (compensate i c) x = refl
clock_noted f (close_line i) x = refl
clock_noted f (require m) x = refl

clock_performed : (s : State) (l : List Act) → (performed s l).figures.clock ≡ s.figures.clock
clock_performed s [] = refl
clock_performed s (a ∷ l) = clock_performed (after_act s a) l ∙ clock_noted s.figures a (amount s a)

no_shut : (p : Phase) → is_shut p ≡ false → ◌≡◌ {A = ℕ} (cond (is_shut p) 48 0) 0
no_shut p e = cond-false (is_shut p) 48 0 e

morning_open : (p : Phase) → is_morning p ≡ true → is_shut p ≡ false
morning_open Morning e = refl
morning_open Late e = absurd (both_ways false refl e)
morning_open Shut e = absurd (both_ways false refl e)

late_open : (p : Phase) → is_late p ≡ true → is_shut p ≡ false
late_open Morning e = absurd (both_ways false refl e)
late_open Late e = refl
late_open Shut e = absurd (both_ways false refl e)

-- Noon, two, and the end of the day.
fit_noon : (rank : Before) (s : State) → Fit s.figures → is_morning s.figures.clock.phase ≡ true → Fit (effect rank s Noon).figures
fit_noon rank s ok e =
    let a = ok.fails in
    let b = fails_phases (noon_run rank) (quiet_noon rank) s in
    let c = ap (λ (k : Clock). k.day) (clock_performed s (in_phases (noon_run rank) s)) in
    let d = no_shut s.figures.clock.phase (morning_open _ e) in
    record {
      bounds = bounds_phase _ Late (bounds_phases (noon_run rank) (run_differences, steps_of_run rank (marks ∷ []) (run_marks, tt)) s ok.bounds);
      fails = omega arith;
    }

fit_two : (rank : Before) (s : State) → Fit s.figures → is_late s.figures.clock.phase ≡ true → Fit (effect rank s Two).figures
fit_two rank s ok e =
    let a = ok.fails in
    let b = fails_two rank s ok.bounds in
    let c = ap (λ (k : Clock). k.day) (clock_performed s (in_phases (two_run rank) s)) in
    let d = no_shut s.figures.clock.phase (late_open _ e) in
    record {
      bounds = bounds_phase _ Shut (bounds_phases (two_run rank) (steps_of_run rank (chargings ∷ []) (run_chargings, tt)) s ok.bounds);
      fails = omega arith;
    }

fit_end : (s : State) → Fit s.figures → is_shut s.figures.clock.phase ≡ true → leb last_day (today s.figures) ≡ false → unpriced s.figures ≡ false
    → Fit (ended_day s).figures
fit_end s ok e room priced =
    let a = ok.fails in
    let b = fails_performed (cleared_day s) (requirements (cleared_day s)) (all_map Quiet require _ (all_any _ (all_members (cleared_day s)) (λ m f x. refl))) in
    let p = places_if (traded_today s.figures) s.figures.register s.figures.register.count in
    let c = fails_performed s (closings s) (all_map Quiet close_line _ (all_any _ p (λ i f x. refl))) in
    let d = ap (λ (k : Clock). k.day) (clock_performed (cleared_day s) (requirements (cleared_day s))) in
    let g = ap (λ (k : Clock). k.day) (clock_performed s (closings s)) in
    let h : ◌≡◌ {A = ℕ} (cond (is_shut s.figures.clock.phase) 48 0) 48 = cond-true _ _ _ e in
    let n = ok.bounds.shape.some_day in
    record {
      bounds = bounds_ended s ok.bounds (leb-false _ _ room) priced;
      fails = omega arith;
    }

-- A closing price is given.
pub bounds_price : (f : Figures) → Bounds f → (t p : ℕ) → t ≤ f.size.securities → p ≤ most_price → Bounds (put_close f t p)
bounds_price f ok t p l k = record {
  shape = record {
    some_member = o.some_member;
    few_members = o.few_members;
    some_security = o.some_security;
    few_securities = o.few_securities;
    some_day = o.some_day;
    last = o.last;
    few_lines = o.few_lines;
    places = o.places;
    records = o.records;
    rows = o.rows;
    cells = o.cells;
    closes = length-set f.closes t p ∙ o.closes;
  };
  lines = λ i b. fits_in f (put_close f t p) _ refl refl (ok.lines i b);
  members = ok.members;
  prices = λ u.
      subst (λ (n : ℕ). n ≤ most_price) (sym (get_or_with f.closes t p 0 (let a = o.closes in let b = o.few_securities in omega arith) u))
      (cond_both (eqb u t) p (close f u) (λ (n : ℕ). n ≤ most_price) (λ e. k) (λ e. ok.prices u));
  weights = ok.weights;
  escrow = ok.escrow;
}
  where
    o : Shape f
    o = ok.shape

-- Cash settlement of places whose lines are due by today.
bounds_compensations : (s : State) (c : ℕ) (is : List ℕ) → c ≤ most_compensation
    → AllByRecursion (λ i. (i < s.figures.register.count) × ((key s.figures.register i).due ≤ today s.figures)) is
    → Bounds s.figures → Bounds (performed s (map (λ i. compensate i c) is)).figures
bounds_compensations s c [] l h ok = ok
bounds_compensations s c (i ∷ is) l h ok =
    bounds_compensations (after_act s (compensate i c)) c is l
    (all_weaken _ _ is (λ j o. (o.0, subst (λ (k : Claim). k.key.due ≤ today s.figures) (sym (same j)) o.1)) h.1)
    (bounds_compensate s.figures ok i h.0.0 h.0.1 c 0 l)
  where
    same : (j : ℕ) → (line (noted s.figures (compensate i c) 0).register j).claim ≡ (line s.figures.register j).claim
    same j =
        (later_line s.figures i (line_served (line s.figures.register i) (line s.figures.register i).rest) ok.shape h.0.0
        (record { claim = refl; money = refl; price = refl; rest = omega arith })).claim j

fit_cash_settled : (s : State) (due t highest : ℕ) → Fit s.figures → highest ≤ most_price → due ≤ today s.figures
    → Fit (performed s (cash_settlements s due t highest)).figures
fit_cash_settled s due t highest ok l before =
    let p = places_if (in_group due t) s.figures.register s.figures.register.count in
    let a = ok.fails in
    let b = fails_performed s (cash_settlements s due t highest) (all_map Quiet (λ i. compensate i (compensation highest)) _ (all_any _ p (λ i f x. refl))) in
    let c = clock_performed s (cash_settlements s due t highest) in
    record {
      bounds = bounds_compensations s (compensation highest) p (dear highest l)
          (all_weaken _ _ p (λ i o. (o.0, let e : (key s.figures.register i).due ≡ due = eqb-true _ _ (and_parts _ _ o.1).0 in omega arith))
          (all_places_if (in_group due t) s.figures.register s.figures.register.count))
          ok.bounds;
      fails = subst (λ (k : Clock). (performed s (cash_settlements s due t highest)).figures.fails ≤ 48 * (k.day - 1) + cond (is_shut k.phase) 48 0) (sym c) (omega arith);
    }
  where
    dear : (n : ℕ) → n ≤ most_price → compensation n ≤ most_compensation
    dear n h = omega arith

-- An accepted event met none of its refusals.
pub refused_by : (x : HouseFault) → is_accepted (refusal x) ≡ false
refused_by NoMember = refl
refused_by NoAsset = refl
refused_by NoFlag = refl
refused_by BadAmount = refl
refused_by WrongPhase = refl
refused_by Bound = refl
refused_by BelowRequirement = refl
refused_by NoPlace = refl
refused_by LineTooLarge = refl
refused_by PositionTooLarge = refl
refused_by NoClose = refl
refused_by NothingOpen = refl
refused_by TooEarly = refl
refused_by LastDay = refl
refused_by UnfitBook = refl
refused_by BadCounts = refl
refused_by (Book x) = refl

pub none_applies : (rs : List (Refusal HouseFault)) → is_accepted (answer_by rs) ≡ true → AllByRecursion (λ (r : Refusal HouseFault). r.applies ≡ false) rs
none_applies [] e = tt
none_applies (r ∷ rs) e =
    ⊎_elim
    (λ (q : r.applies ≡ true). absurd (both_ways _ (refused_by r.fault) (ap is_accepted (sym (cond-true r.applies (refusal r.fault) (answer_by rs) q)) ∙ e)))
    (λ (q : r.applies ≡ false). (q, none_applies rs (ap is_accepted (sym (cond-false r.applies (refusal r.fault) (answer_by rs) q)) ∙ e)))
    (cases_Bool r.applies)

in_range : (most n : ℕ) → not (from_one_to most n) ≡ false → (0 < n) × (n ≤ most)
in_range most n e = let a = and_parts _ _ (not-false _ e) in (ltb-true _ _ a.0, leb-true _ _ a.1)

abbrev None : List (Refusal HouseFault) → Type 0
None rs = AllByRecursion (λ (r : Refusal HouseFault). r.applies ≡ false) rs

-- A trade: as such it is sound, and the netting refuses nothing.
fit_traded : (s : State) (t : Trade) → Fit s.figures → None (trade_refusals s.figures t []) → None (netting_refusals s.figures t) → Fit (traded s t).figures
fit_traded s t ok a b =
    let m = or_parts _ _ a.0 in
    let p = or_parts _ _ b.1.1.0 in
    record {
      bounds = bounds_traded s.figures ok.bounds t (in_range _ _ m.0) (in_range _ _ m.1) (in_range _ _ a.1.0)
          (in_range most_price t.price (or_parts _ _ a.1.1.1.0).1).1 (ltb-false _ _ b.0) b.1.0 p.0 p.1;
      fails = ok.fails;
    }

-- Every event that meets no refusal.
fit_effect : (rank : Before) (s : State) (e : Event) (space : ℕ) → Fit s.figures → None (event_refusals s e space) → Fit (effect rank s e).figures
fit_effect rank s (Bring m t n) space ok a = ok
fit_effect rank s (Take m t n) space ok a = ok
fit_effect rank s (Endow n) space ok a = ok
fit_effect rank s (Pledge m n) space ok a = ok
fit_effect rank s (Refund m n) space ok a = ok
fit_effect rank s (Contribute m n) space ok a = ok
fit_effect rank s (Novate t) space ok a = fit_traded s t ok (a.0, (a.1.0, (a.1.1.0, (a.1.1.1.0, tt)))) a.1.1.1.1
fit_effect rank s (Price t p) space ok a = record {
  bounds = bounds_price s.figures ok.bounds t p (in_range _ _ a.0).1 (in_range _ _ a.1.0).1;
  fails = ok.fails;
}
fit_effect rank s Noon space ok a = fit_noon rank s ok (not-false _ a.0)
fit_effect rank s Two space ok a = fit_two rank s ok (not-false _ a.0)
fit_effect rank s End space ok a = fit_end s ok (not-false _ a.0) a.1.0 a.1.1.0
fit_effect rank s (BuyIn due t) space ok a = fit_traded s t ok (a.0, (a.1.0, (a.1.1.0, (a.1.1.1.0, tt)))) a.1.1.1.1.1.1
fit_effect rank s (SellOut t) space ok a = fit_traded s t ok (a.0, (a.1.0, (a.1.1.0, (a.1.1.1.0, tt)))) a.1.1.1.1.1.1
fit_effect rank s (CashSettle due t highest risk) space ok a =
    fit_cash_settled s due t highest ok (in_range _ _ a.1.0).1 (let q : due + cond risk 1 3 ≤ today s.figures = ltb-false _ _ a.1.1.0 in omega arith)

fit_next : (rank : Before) (s : State) (x : Entry) → Fit s.figures → Fit (next rank s x).figures
fit_next rank s x ok =
    cond_both (taken s x) (effect rank s x.event) s (λ (t : State). Fit t.figures)
    (λ e. fit_effect rank s x.event x.space ok (none_applies (event_refusals s x.event x.space) e)) (λ e. ok)

-- An element of a list that repeats one, or the same for a place behind it.
get_or_repeated : {A : Type 0} (n i : ℕ) (a : A) → get_or (replicate n a) i a ≡ a
get_or_repeated n i a = ⊎_elim (λ l. get_or-replicate n i a a l) (λ l. get_or_past (replicate n a) i a (let e = length-replicate n a in omega arith)) (cases_lt i n)

-- A row of escrow shares at first, and that nothing is in escrow.
abbrev empty_row : Row
empty_row = record { shares = replicate 17 0 }

no_escrow : (m s i t : ℕ) → in_escrow (opened_figures m s) i t ≡ 0
no_escrow m s i t =
    ⊎_elim
    (λ (l : i < 25). ap (λ (r : Row). get_or r.shares t 0) (get_or-replicate 25 i empty_row no_row l) ∙ get_or_repeated 17 t 0)
    (λ (l : 25 ≤ i). ap (λ (r : Row). get_or r.shares t 0) (get_or_past (replicate 25 empty_row) i no_row l))
    (cases_lt i 25)

fit_opened : (m s : ℕ) → 0 < m → m ≤ most_members → 0 < s → s ≤ most_securities → Fit (opened_figures m s)
fit_opened m s m₀ m₁ s₀ s₁ = record {
  bounds = record {
    shape = record {
      some_member = m₀;
      few_members = m₁;
      some_security = s₀;
      few_securities = s₁;
      some_day = omega arith;
      last = omega arith;
      few_lines = omega arith;
      places = length-replicate register_places no_line;
      records = length-replicate 25 no_member;
      rows = length-replicate 25 empty_row;
      cells = λ i l. ap (λ (r : Row). length r.shares) (get_or-replicate 25 i empty_row no_row l) ∙ length-replicate {A = ℕ} 17 0;
      closes = length-replicate {A = ℕ} 17 0;
    };
    lines = λ i l. absurd (omega arith);
    members = λ i l. subst MemberFits (sym (get_or_repeated 25 i no_member)) (record {
      charges = omega arith;
      shares = omega arith;
      cash = omega arith;
      requirement = omega arith;
      owed = omega arith;
      late = omega arith;
    });
    prices = λ t. let e : close (opened_figures m s) t ≡ 0 = get_or_repeated 17 t 0 in omega arith;
    weights = λ i l. subst (λ (r : Member). nat_abs r.position + r.advances + 0 ≤ most_weight) (sym (get_or_repeated 25 i no_member)) (omega arith);
    escrow = λ i t. let e = no_escrow m s i t in omega arith;
  };
  fails = omega arith;
}

-- What a call leaves of the figures, where it answers and does as an entry says.
pub fit_left : (rank : Before) (s : State) (x : Entry) (w : Answer) (f : Figures) → w ≡ answer s x.event x.space
    → f ≡ cond (is_accepted w) (effect rank s x.event).figures s.figures → Fit s.figures → Fit f
fit_left rank s x w f q is ok =
    subst Fit (either (taken s x) ∙ (ap (λ (w : Answer). cond (is_accepted w) (effect rank s x.event).figures s.figures) (sym q) ∙ sym is))
    (fit_next rank s x ok)
  where
    either : (t : Bool) → (cond t (effect rank s x.event) s).figures ≡ cond t (effect rank s x.event).figures s.figures
    either true = refl
    either false = refl

pub bounds_kept : BoundsKept
bounds_kept = (fit_opened, fit_next)
