-- Who is served and who is passed shares, and that servings leave nothing in hand.
use Rattle.std.proofs.Common.{◌≡◌, ℕ, ◌+◌, ◌-◌, ◌<◌, ◌≤◌, min, Bool, true, false, cond, ◌&&◌, eqb, ltb, leb, ◌⊎◌, List, [], ◌∷◌, map, length, get_or, ℤ, pos, sym, refl, ap, ◌∙◌, subst, inl, inr, ⊎_elim, arith}
use lib.Signed.{lt_z}
use Rattle.std.specs.List.{AllByRecursion}
use Rattle.std.proofs.lemmas.List.{get_or-set_same, get_or-set_other}
use Rattle.std.proofs.lemmas.Int.{ints}
use Rattle.std.proofs.lemmas.Bool.{both_ways, cases_Bool, cases_eq, cases_lt, eqb-true, eq-eqb, leb-true, le-leb, and_parts, and_from, cond_both}
use Rattle.book.specs.Ledger.{sum_to}
use Rattle.book.proofs.Sums.{sum_same, sum_zero}
use Rattle.rank.specs.declared.claim.Claim.{Claim}
use Rattle.rank.specs.Claims.{is_delivering, is_receiving}
use Rattle.rank.specs.Laws.{Lawful}
use Rattle.rank.specs.Order.{In}
use Rattle.rank.proofs.Members.{all_in}
use Rattle.rank.proofs.Sorting.{InTurn}
use Rattle.rules.specs.declared.event.Event.{Event}
use Rattle.rules.specs.declared.event.Event.TheVariants.{Noon, Two}
use Rattle.rules.specs.declared.figures.Phase.{Phase}
use Rattle.rules.specs.declared.figures.Phase.TheVariants.{Late, Shut}
use Rattle.rules.specs.declared.figures.Clock.{Clock}
use Rattle.register.specs.declared.line.Line.{Line}
use Rattle.rules.specs.declared.figures.Member.{Member}
use Rattle.register.specs.declared.Register.{Register}
use Rattle.rules.specs.declared.figures.Figures.{Figures}
use Rattle.rules.specs.State.{State, today, no_member, member, position, in_escrow, owes, above, put_line, put_member}
use Rattle.register.specs.Lines.{line, key, delivers, receives, in_group, rest_of, sum_if, to_deliver, to_receive, in_hand, with_line, due_by, no_line}
use Rattle.rules.specs.Run.{Before, Source, own, from_collateral, from_contribution, from_reserve, Act, settle, give, give_escrow, serve, pay, pay_out, repay, pay_charges, pass, mark_line, mark, charge, compensate, close_line, require, amount, noted, after_act, performed, Along, each, in_run, delivering, receiving, due_today, PhaseActs, in_phases, all_members, all_securities, all_places, share, differences, deliveries_of, deliveries, servings, payments_of, payments, payouts, repayments_of, repayments, passings_of, passings, marks, chargings, steps, noon_run, line_given, line_served, line_settled, line_marked, record_marked}
use Rattle.rules.specs.Charges.{charged_record}
use Rattle.rules.specs.Events.{acts, effect, in_phase}
use Rattle.rules.specs.Life.{Entry, ahead, FairAct, InOrder}
use Rattle.rules.specs.Fit.{Shape}
use Rattle.rules.proofs.Sums.{sum_if_with}
use Rattle.rules.proofs.Written.{line_with, member_with}
use Rattle.rules.proofs.Acts.{MemberOf, OfRun, Later, later_same, later_trans, later_noted, later_performed, run_later, run_servings, shape_noted, shape_performed, all_of_run, all_map, all_each, all_append, performed_append, along_append, performed_keeps, run_differences, run_deliveries, run_payments, run_payouts, run_repayments, run_passings, run_marks, run_chargings}
use Rattle.rules.proofs.Invariants.{SoundLines, Working, Rested}
use Rattle.rules.proofs.Order.{place_goes, in_run_holds, in_run_turn, GoesAhead, goes_ahead, ahead_goes, never_ahead}

receives_only : (z : ℤ) → lt_z z (pos 0) ≡ true → lt_z (pos 0) z ≡ false
receives_only z e = grind (arith, ints)

-- What x shares served of a line take from what is in hand for a group.
hand_lowered : (b : Bool) (rest x receive deliver receive' deliver' : ℕ) → x ≤ rest
    → receive' + cond b rest 0 ≡ receive + cond b (rest - x) 0 → deliver' + 0 ≡ deliver + 0
    → receive' - deliver' ≡ (receive - deliver) - cond b x 0
hand_lowered true rest x receive deliver receive' deliver' h r d = omega arith
hand_lowered false rest x receive deliver receive' deliver' h r d = omega arith

served_hand : (g : Register) (i x : ℕ) → i < g.count → i < length g.lines → receives (line g i) ≡ true → x ≤ (line g i).rest → (d t : ℕ)
    → in_hand (with_line g i (line_served (line g i) x)) d t ≡ in_hand g d t - cond (in_group d t (line g i)) x 0
served_hand g i x h h' r u d t =
    let l = line g i in
    let l' = line_served (line g i) x in
    let taking = sum_if_with (λ k. receives k && in_group d t k) rest_of g i l' h h' in
    let giving = sum_if_with (λ k. delivers k && in_group d t k) rest_of g i l' h h' in
    hand_lowered (in_group d t l) l.rest x (to_receive g d t) (to_deliver g d t) (to_receive (with_line g i l') d t) (to_deliver (with_line g i l') d t) u
    (subst (λ b. to_receive (with_line g i l') d t + cond (b && in_group d t l) l.rest 0 ≡ to_receive g d t + cond (b && in_group d t l) (l.rest - x) 0) r taking)
    (subst (λ b. to_deliver (with_line g i l') d t + cond (b && in_group d t l) l.rest 0 ≡ to_deliver g d t + cond (b && in_group d t l) (l.rest - x) 0)
    (receives_only l.claim.quantity r) giving)

-- Receiving lines due by a day.
abbrev receives_by : ℕ → Line → Bool
receives_by day l = receives l && due_by day l

place_within : (f : Figures) (i : ℕ) → Shape f → i < f.register.count → i < length f.register.lines
place_within f i h l = let a = h.few_lines in let b = h.places in omega arith

-- What is in hand for a group after a line is served.
hand_served : (s : State) (i : ℕ) → Shape s.figures → OfRun s.figures (serve i) → (d t : ℕ)
    → in_hand (after_act s (serve i)).figures.register d t
    ≡ in_hand s.figures.register d t - cond (in_group d t (line s.figures.register i)) (amount s (serve i)) 0
hand_served s i h o d t =
    let l = line s.figures.register i in
    served_hand s.figures.register i (amount s (serve i)) o.0 (place_within s.figures i h o.0)
    (and_parts (receives l) (due_by (today s.figures) l) o.1).0 (omega arith) d t

rest_served : (s : State) (i : ℕ) → Shape s.figures → OfRun s.figures (serve i)
    → (line (after_act s (serve i)).figures.register i).rest ≡ (line s.figures.register i).rest - amount s (serve i)
rest_served s i h o =
    ap (λ (l : Line). l.rest) (get_or-set_same s.figures.register.lines i (line_served (line s.figures.register i) (amount s (serve i))) no_line (place_within s.figures i h o.0))

-- Each receiving line due by a day is still to come, or has no rest, or nothing is in hand for its group.
abbrev Open : ℕ → State → List ℕ → Type 0
Open day s js =
    (j : ℕ) → j < s.figures.register.count → receives_by day (line s.figures.register j) ≡ true
    → In j js ⊎ (((line s.figures.register j).rest ≡ 0)
    ⊎ (in_hand s.figures.register (key s.figures.register j).due (key s.figures.register j).security ≡ 0))

own_group : (l : Line) → in_group l.claim.key.due l.claim.key.security l ≡ true
own_group l = and_from _ _ (eq-eqb l.claim.key.due l.claim.key.due refl) (eq-eqb l.claim.key.security l.claim.key.security refl)

used_up : (rest hand rest' hand' : ℕ) → rest' ≡ rest - min rest hand → hand' ≡ hand - min rest hand → (rest' ≡ 0) ⊎ (hand' ≡ 0)
used_up rest hand rest' hand' r h = ⊎_elim (λ a. inl (omega arith)) (λ a. inr (omega arith)) (cases_lt rest hand)

-- A line that is served has no rest then, or nothing is in hand for its group.
serve_used : (s : State) (i : ℕ) → Shape s.figures → OfRun s.figures (serve i)
    → ((line (after_act s (serve i)).figures.register i).rest ≡ 0)
    ⊎ (in_hand (after_act s (serve i)).figures.register (key s.figures.register i).due (key s.figures.register i).security ≡ 0)
serve_used s i h o =
    let l = line s.figures.register i in
    let d = l.claim.key.due in
    let t = l.claim.key.security in
    used_up l.rest (in_hand s.figures.register d t) _ _ (rest_served s i h o)
    (subst (λ b. in_hand (after_act s (serve i)).figures.register d t ≡ in_hand s.figures.register d t - cond b (amount s (serve i)) 0) (own_group l) (hand_served s i h o d t))

hand_falls : (s : State) (i : ℕ) → Shape s.figures → OfRun s.figures (serve i) → (d t : ℕ)
    → in_hand (after_act s (serve i)).figures.register d t ≤ in_hand s.figures.register d t
hand_falls s i h o d t = let e = hand_served s i h o d t in omega arith

serve_later : (s : State) (i : ℕ) → Shape s.figures → OfRun s.figures (serve i) → Later s.figures (after_act s (serve i)).figures
serve_later s i h o = later_noted s.figures (serve i) (amount s (serve i)) h o

serve_open : (day : ℕ) (s : State) (i : ℕ) (js : List ℕ) → Shape s.figures → OfRun s.figures (serve i) → Open day s (i ∷ js) → Open day (after_act s (serve i)) js
serve_open day s i js h o before j b r =
    let l = serve_later s i h o in
    let g = s.figures.register in
    let g' = (after_act s (serve i)).figures.register in
    ⊎_elim
    (⊎_elim
    (λ (e : j ≡ i).
    inr (⊎_elim
    (λ z. inl (subst (λ (k : ℕ). (line g' k).rest ≡ 0) (sym e) z))
    (λ z. inr (subst (λ (c : Claim). in_hand g' c.key.due c.key.security ≡ 0) (sym (l.claim j ∙ ap (λ (k : ℕ). (line g k).claim) e)) z))
    (serve_used s i h o)))
    (λ later. inl later))
    (λ q. inr (⊎_elim
    (λ z. inl (let y = l.rest j in omega arith))
    (λ z. inr (subst (λ (c : Claim). in_hand g' c.key.due c.key.security ≡ 0) (sym (l.claim j))
    (let y = hand_falls s i h o (key g j).due (key g j).security in omega arith)))
    q))
    (before j b (subst (λ (c : Claim). is_receiving c && leb c.key.due day ≡ true) (l.claim j) r))

-- What each serving of a list keeps.
serves_keep : (Inv : List ℕ → State → Type 0)
    → ((s : State) (i : ℕ) (js : List ℕ) → Shape s.figures → OfRun s.figures (serve i) → Inv (i ∷ js) s → Inv js (after_act s (serve i)))
    → (s : State) (js : List ℕ) → Shape s.figures → AllByRecursion (OfRun s.figures) (map serve js) → Inv js s → Inv [] (performed s (map serve js))
serves_keep Inv step s [] h o i = i
serves_keep Inv step s (j ∷ js) h o i =
    serves_keep Inv step (after_act s (serve j)) js (shape_noted s.figures (serve j) (amount s (serve j)) h)
    (all_of_run _ _ (serve_later s j h o.0) (map serve js) o.1) (step s j js h o.0 i)

sum_none : (n : ℕ) (f : ℕ → ℕ) → ((k : ℕ) → k < n → f k ≡ 0) → sum_to n f ≡ 0
sum_none n f h = sum_same n f (λ k. 0) h ∙ sum_zero n (λ k. 0) (λ k. refl)

-- Where no line is to come, nothing is in hand for a group that is due.
none_to_come : (day : ℕ) (s : State) → Open day s [] → (d t : ℕ) → d ≤ day → in_hand s.figures.register d t ≡ 0
none_to_come day s done d t h =
    let g = s.figures.register in
    ⊎_elim
    (λ z. z)
    (λ (n : in_hand g d t ≡ 0 → ⊥).
    let z : to_receive g d t ≡ 0
    = sum_none g.count (λ j. cond (receives (line g j) && in_group d t (line g j)) (line g j).rest 0)
    (λ j b. term n j b (receives (line g j) && in_group d t (line g j)) refl) in
    omega arith)
    (cases_eq (in_hand g d t) 0)
  where
    term : (in_hand s.figures.register d t ≡ 0 → ⊥) → (j : ℕ) → j < s.figures.register.count
        → (b : Bool) → (receives (line s.figures.register j) && in_group d t (line s.figures.register j)) ≡ b → cond b (line s.figures.register j).rest 0 ≡ 0
    term n j b false e = refl
    term n j b true e =
        let l = line s.figures.register j in
        let side_group = and_parts (receives l) (in_group d t l) e in
        let day_security = and_parts (eqb l.claim.key.due d) (eqb l.claim.key.security t) side_group.1 in
        let one_day = eqb-true l.claim.key.due d day_security.0 in
        let one_security = eqb-true l.claim.key.security t day_security.1 in
        ⊎_elim (λ m. absurd m)
        (⊎_elim (λ z. z) (λ z. absurd (n (
        ap (λ u. in_hand s.figures.register u t) (sym one_day) ∙ (ap (λ u. in_hand s.figures.register l.claim.key.due u) (sym one_security) ∙ z)))))
        (done j b (and_from (receives l) (leb l.claim.key.due day) side_group.0 (le-leb l.claim.key.due day (omega arith))))

-- After the servings nothing is in hand, if nothing was for groups that are not due.
pub servings_exhaust : (rank : Before) (s : State) → Shape s.figures
    → ((d t : ℕ) → today s.figures < d → in_hand s.figures.register d t ≡ 0)
    → (d t : ℕ) → in_hand (performed s (servings rank s)).figures.register d t ≡ 0
servings_exhaust rank s h undue d t =
    let day = today s.figures in
    let js = in_run rank s.figures (receiving s.figures) in
    let o = run_servings rank s in
    ⊎_elim
    (λ (l : day < d).
    serves_keep (λ js g. in_hand g.figures.register d t ≡ 0) (λ g i js h o z. let y = hand_falls g i h o d t in omega arith) s js h o (undue d t l))
    (λ (l : d ≤ day).
    none_to_come day (performed s (servings rank s))
    (serves_keep (λ js g. Open day g js) (λ g i js h o z. serve_open day g i js h o z) s js h o
    (λ j b r. inl (in_run_holds rank s.figures (receiving s.figures) j b r)))
    d t l)
    (cases_lt day d)

-- What is asked of servings reads this of a later state: the same lines, with rests no larger. The clock may have gone on.
pub record Lowered (g e : Figures) : Type 0 where
  pub count : e.register.count ≡ g.register.count
  pub claim : (j : ℕ) → (line e.register j).claim ≡ (line g.register j).claim
  pub price : (j : ℕ) → (line e.register j).price ≡ (line g.register j).price
  pub rest : (j : ℕ) → (line e.register j).rest ≤ (line g.register j).rest

pub lowered_later : (g e : Figures) → Later g e → Lowered g e
lowered_later g e l = record { count = l.count; claim = l.claim; price = l.price; rest = l.rest }

pub lowered_trans : (f g e : Figures) → Lowered f g → Lowered g e → Lowered f e
lowered_trans f g e p q = record {
  count = q.count ∙ p.count;
  claim = λ j. q.claim j ∙ p.claim j;
  price = λ j. q.price j ∙ p.price j;
  rest = λ j. let a = q.rest j in let b = p.rest j in omega arith;
}

ahead_same : (rank : Before) (g e : State) → Lowered g.figures e.figures → (j i : ℕ) → ahead rank e j i ≡ ahead rank g j i
ahead_same rank g e l j i =
    let of : Claim → ℕ → Claim → Bool
    = λ c p k. is_receiving k && ((eqb k.key.due c.key.due && eqb k.key.security c.key.security) && rank p k c) in
    ap (λ (k : Claim). of (line e.figures.register i).claim (line e.figures.register i).price k) (l.claim j)
    ∙ (ap (λ (p : ℕ). of (line e.figures.register i).claim p (line g.figures.register j).claim) (l.price i)
    ∙ ap (λ (c : Claim). of c (line g.figures.register i).price (line g.figures.register j).claim) (l.claim i))

-- What is asked of a serving in the state that it finds holds in every later state.
pub fair_later : (rank : Before) (g e : State) (i : ℕ) → Lowered g.figures e.figures → FairAct rank g g (serve i) → FairAct rank e g (serve i)
fair_later rank g e i l fair x j b a =
    let z = fair x j (subst (λ (n : ℕ). j < n) l.count b) (sym (ahead_same rank g e l j i) ∙ a) in
    let y = l.rest j in
    omega arith

module _ (rank : Before) (law : (p : ℕ) → Lawful (rank p)) (s : State) (sound : SoundLines s.figures) where
  abbrev due_at : ℕ → Type 0
  due_at i = OfRun s.figures (serve i)

  -- A line is served when those that go ahead of it have no rest: of the lines to come none goes before it.
  serve_fair : (g : State) (i : ℕ) (js : List ℕ) → Later s.figures g.figures → due_at i
      → AllByRecursion (λ j. place_goes rank s.figures.register j i ≡ false) js → Open (today s.figures) g (i ∷ js) → FairAct rank g g (serve i)
  serve_fair g i js l o behind before x j b a =
      let at = line s.figures.register in
      let now = line g.figures.register in
      let then_ahead = goes_ahead rank s j i (sym (ahead_same rank s g (lowered_later _ _ l) j i) ∙ a) in
      let now_ahead = goes_ahead rank g j i a in
      let due = and_parts (receives (at i)) (due_by (today s.figures) (at i)) o.1 in
      let by_today : (key s.figures.register j).due ≤ today s.figures
      = (let p = leb-true (key s.figures.register i).due (today s.figures) due.1 in let q = then_ahead.one_day in omega arith) in
      ⊎_elim
      (⊎_elim
      (λ (e : j ≡ i). absurd (never_ahead rank law s.figures sound i (subst (λ (z : ℕ). GoesAhead rank (at i) (at z)) e then_ahead)))
      (λ (m : In j js). absurd (both_ways (place_goes rank s.figures.register j i) (all_in (λ z. place_goes rank s.figures.register z i ≡ false) js j behind m)
      (ahead_goes rank law s.figures sound i j o.0 (subst (λ (n : ℕ). j < n) l.count b) due.0 then_ahead))))
      (⊎_elim
      (λ z. z)
      (λ z. absurd (let y : in_hand g.figures.register (now i).claim.key.due (now i).claim.key.security ≡ 0
      = ap (λ u. in_hand g.figures.register u (now i).claim.key.security) (sym now_ahead.one_day)
      ∙ (ap (λ u. in_hand g.figures.register (now j).claim.key.due u) (sym now_ahead.one_security) ∙ z) in omega arith)))
      (before j b (and_from (receives (now j)) (due_by (today s.figures) (now j)) now_ahead.receives_too
      (subst (λ (c : Claim). leb c.key.due (today s.figures) ≡ true) (sym (l.claim j)) (le-leb (key s.figures.register j).due (today s.figures) by_today))))

  serves_fair : (g : State) (js : List ℕ) → Shape g.figures → Later s.figures g.figures → AllByRecursion (OfRun s.figures) (map serve js)
      → InTurn (place_goes rank s.figures.register) js → Open (today s.figures) g js → Along (λ g a. FairAct rank g g a) g (map serve js)
  serves_fair g [] h l o turn before = tt
  serves_fair g (i ∷ js) h l o turn before =
      let now : OfRun g.figures (serve i) = run_later s.figures g.figures l (serve i) o.0 in (
        serve_fair g i js l o.0 turn.0 before,
        serves_fair (after_act g (serve i)) js (shape_noted g.figures (serve i) (amount g (serve i)) h) (later_trans _ _ _ l (serve_later g i h now))
            o.1 turn.1 (serve_open (today s.figures) g i js h now before),
      )

pub fair_servings : (rank : Before) → ((p : ℕ) → Lawful (rank p)) → (s : State) → Working s → Along (λ g a. FairAct rank g g a) s (servings rank s)
fair_servings rank law s w =
    serves_fair rank law s w.lines s (in_run rank s.figures (receiving s.figures)) w.shape (later_same s.figures) (run_servings rank s)
    (in_run_turn rank law s.figures w.lines (receiving s.figures))
    (λ j b r. inl (in_run_holds rank s.figures (receiving s.figures) j b r))

-- What an act of a run keeps of the figures, whatever it moves.
abbrev Keeps : (Figures → Figures → Type 0) → Act → Type 0
Keeps R a = (f : Figures) (x : ℕ) → Shape f → OfRun f a → R f (noted f a x)

-- e has the positions and advances of g.
pub record SameDebts (g e : Figures) : Type 0 where
  pub positions : (m : ℕ) → position e m ≡ position g m
  pub advances : (m : ℕ) → (member e m).advances ≡ (member g m).advances

same_debts : (f : Figures) → SameDebts f f
same_debts f = record { positions = λ m. refl; advances = λ m. refl }

same_debts_trans : (f g e : Figures) → SameDebts f g → SameDebts g e → SameDebts f e
same_debts_trans f g e p q = record { positions = λ m. q.positions m ∙ p.positions m; advances = λ m. q.advances m ∙ p.advances m }

owes_same : (g e : Figures) → SameDebts g e → (m : ℕ) → owes e m ≡ owes g m
owes_same g e d m =
    ap (λ (z : ℤ). ltb 0 (above z + (member e m).advances)) (d.positions m) ∙ ap (λ (n : ℕ). ltb 0 (above (position g m) + n)) (d.advances m)

-- Another record of a member, with the same position and advances.
debts_with : (f : Figures) (m : ℕ) (r : Member) → Shape f → MemberOf f m → r.position ≡ position f m → r.advances ≡ (member f m).advances
    → SameDebts f (put_member f m r)
debts_with f m r h o p a = record {
  positions = λ k. one k (λ (x : Member). x.position ≡ position f k) (λ e. p ∙ ap (λ z. position f z) (sym e)) refl;
  advances = λ k. one k (λ (x : Member). x.advances ≡ (member f k).advances) (λ e. a ∙ ap (λ z. (member f z).advances) (sym e)) refl;
}
  where
    one : (k : ℕ) (P : Member → Type 0) → (k ≡ m → P r) → P (member f k) → P (member (put_member f m r) k)
    one k P here there =
        subst P (sym (member_with f m r (let b = h.few_members in let c = h.records in let d = o.1 in omega arith) k))
        (cond_both (eqb k m) r (member f k) P (λ e. here (eqb-true k m e)) (λ e. there))

pass_debts : (m t : ℕ) → Keeps SameDebts (pass m t)
pass_debts m t f x h o = record { positions = λ k. refl; advances = λ k. refl }

mark_line_debts : (i : ℕ) → Keeps SameDebts (mark_line i)
mark_line_debts i f x h o = record { positions = λ k. refl; advances = λ k. refl }

mark_debts : (m : ℕ) → Keeps SameDebts (mark m)
mark_debts m f x h o = debts_with f m (record_marked f m) h o refl refl

charge_debts : (m : ℕ) → Keeps SameDebts (charge m)
charge_debts m f x h o =
    let d = debts_with f m (charged_record f m) h o refl refl in
    record { positions = d.positions; advances = d.advances }

-- Passing: a member that is passed shares owes nothing.
abbrev pub FairBoth : Before → State → State → Act → Type 0
FairBoth rank e g a = FairAct rank g g a × FairAct rank e g a

pass_fair : (rank : Before) (g e : State) (m t : ℕ) → SameDebts g.figures e.figures → FairAct rank e g (pass m t)
pass_fair rank g e m t d x =
    owes_same g.figures e.figures d m
    ∙ ⊎_elim
    (λ (o : owes g.figures m ≡ true). absurd (let y = subst (λ b. 0 < cond b 0 (in_escrow g.figures m t)) o x in omega arith))
    (λ o. o)
    (cases_Bool (owes g.figures m))

passes_fair : (rank : Before) (g e : State) (m : ℕ) (ts : List ℕ) → SameDebts g.figures e.figures → Along (FairBoth rank e) g (map (pass m) ts)
passes_fair rank g e m [] d = tt
passes_fair rank g e m (t ∷ ts) d =
    ((pass_fair rank g g m t (same_debts g.figures), pass_fair rank g e m t d), passes_fair rank (after_act g (pass m t)) e m ts (record { positions = d.positions; advances = d.advances }))

passes_debts : (g : State) (m : ℕ) (ts : List ℕ) → (performed g (map (pass m) ts)).figures.records ≡ g.figures.records
passes_debts g m [] = refl
passes_debts g m (t ∷ ts) = passes_debts (after_act g (pass m t)) m ts

passings_fair : (rank : Before) (g e : State) (ts ms : List ℕ) → SameDebts g.figures e.figures → Along (FairBoth rank e) g (each (λ m. map (pass m) ts) ms)
passings_fair rank g e ts [] d = tt
passings_fair rank g e ts (m ∷ ms) d =
    let s = performed g (map (pass m) ts) in
    let same : s.figures.records ≡ g.figures.records = passes_debts g m ts in
    along_append (FairBoth rank e) g (map (pass m) ts) (each (λ m. map (pass m) ts) ms) (passes_fair rank g e m ts d)
    (passings_fair rank s e ts ms (record {
      positions = λ k. d.positions k ∙ ap (λ (rs : List Member). (get_or rs k no_member).position) (sym same);
      advances = λ k. d.advances k ∙ ap (λ (rs : List Member). (get_or rs k no_member).advances) (sym same);
    }))

pub fair_passings : (rank : Before) (s e : State) → SameDebts s.figures e.figures → Along (FairBoth rank e) s (passings s)
fair_passings rank s e d = passings_fair rank s e (all_securities s) (all_members s) d

-- Rests: what changes none.
abbrev SameRests : Figures → Figures → Type 0
SameRests g e = (j : ℕ) → (line e.register j).rest ≡ (line g.register j).rest

rests_with : (f : Figures) (i : ℕ) (l : Line) → Shape f → i < f.register.count → l.rest ≡ (line f.register i).rest → SameRests f (put_line f i l)
rests_with f i l h b e j =
    subst (λ (x : Line). x.rest ≡ (line f.register j).rest) (sym (line_with f.register i l (place_within f i h b) j))
    (cond_both (eqb j i) l (line f.register j) (λ x. x.rest ≡ (line f.register j).rest) (λ t. e ∙ ap (λ k. (line f.register k).rest) (sym (eqb-true j i t))) (λ t. refl))

-- A line that is not due is another than one that is.
rest_undue : (f : Figures) (i : ℕ) (l : Line) (side : Line → Bool) → (side (line f.register i) && due_by (today f) (line f.register i)) ≡ true
    → (j : ℕ) → today f < (key f.register j).due → (line (put_line f i l).register j).rest ≡ (line f.register j).rest
rest_undue f i l side r j u =
    let due = leb-true (key f.register i).due (today f) (and_parts (side (line f.register i)) (due_by (today f) (line f.register i)) r).1 in
    ap (λ (x : Line). x.rest) (get_or-set_other f.register.lines i j l no_line
    (λ e. let d : (key f.register j).due ≡ (key f.register i).due = ap (λ k. (key f.register k).due) e in omega arith))

-- No act of a run changes the rest of a line that is not due.
undue_kept : (f : Figures) (a : Act) (x : ℕ) → Shape f → OfRun f a → (j : ℕ) → today f < (key f.register j).due
    → (line (noted f a x).register j).rest ≡ (line f.register j).rest
undue_kept f (settle i) x h o j u = rests_with f i (line_settled (line f.register i)) h o.0 refl j
undue_kept f (give i) x h o j u = rest_undue f i (line_given (line f.register i) x) delivers o.1 j u
undue_kept f (give_escrow i) x h o j u = rest_undue f i (line_given (line f.register i) x) delivers o.1 j u
undue_kept f (serve i) x h o j u = rest_undue f i (line_served (line f.register i) x) receives o.1 j u
undue_kept f (pay m from) x h o j u = refl
undue_kept f (pay_out m n) x h o j u = refl
undue_kept f (repay m) x h o j u = refl
undue_kept f (pay_charges m) x h o j u = refl
undue_kept f (pass m t) x h o j u = refl
undue_kept f (mark_line i) x h o j u = rests_with f i (line_marked (line f.register i)) h o.0 refl j
undue_kept f (mark m) x h o j u = refl
undue_kept f (charge m) x h o j u = refl
undue_kept f (compensate i c) x h o j u = absurd o
undue_kept f (close_line i) x h o j u = absurd o
undue_kept f (require m) x h o j u = absurd o

-- The rests of a group on one side, where its lines have the rests that they had.
group_same : (side : Claim → Bool) (d t : ℕ) (g e : Figures) → Later g e → ((j : ℕ) → (key g.register j).due ≡ d → (line e.register j).rest ≡ (line g.register j).rest)
    → sum_if (λ l. side l.claim && in_group d t l) rest_of e.register ≡ sum_if (λ l. side l.claim && in_group d t l) rest_of g.register
group_same side d t g e l same =
    ap (λ n. sum_to n (λ j. cond (side (line e.register j).claim && in_group d t (line e.register j)) (line e.register j).rest 0)) l.count
    ∙ sum_same g.register.count _ _ (λ j b.
    ap (λ (c : Claim). cond (side c && (eqb c.key.due d && eqb c.key.security t)) (line e.register j).rest 0) (l.claim j)
    ∙ term j (side (line g.register j).claim && in_group d t (line g.register j)) refl)
  where
    term : (j : ℕ) (b : Bool) → (side (line g.register j).claim && in_group d t (line g.register j)) ≡ b
        → cond b (line e.register j).rest 0 ≡ cond b (line g.register j).rest 0
    term j false q = refl
    term j true q =
        let k = line g.register j in
        same j (eqb-true k.claim.key.due d (and_parts (eqb k.claim.key.due d) (eqb k.claim.key.security t) (and_parts (side k.claim) (in_group d t k) q).1).0)

hand_same : (d t : ℕ) (g e : Figures) → Later g e → ((j : ℕ) → (key g.register j).due ≡ d → (line e.register j).rest ≡ (line g.register j).rest)
    → in_hand e.register d t ≡ in_hand g.register d t
hand_same d t g e l same =
    let a = group_same is_receiving d t g e l same in
    let b = group_same is_delivering d t g e l same in
    cc

-- So nothing comes in hand for groups that are not due.
abbrev UndueEmpty : State → Type 0
UndueEmpty s = (d t : ℕ) → today s.figures < d → in_hand s.figures.register d t ≡ 0

undue_stays_empty : (s : State) (a : Act) → Shape s.figures → OfRun s.figures a → UndueEmpty s → UndueEmpty (after_act s a)
undue_stays_empty s a h o z d t u =
    let l = later_noted s.figures a (amount s a) h o in
    let u' : today s.figures < d = subst (λ (c : Clock). c.day < d) l.clock u in
    hand_same d t s.figures (after_act s a).figures l
    (λ j e. undue_kept s.figures a (amount s a) h o j (omega arith))
    ∙ z d t u'

-- An act of which nothing is asked.
abbrev Quiet : Act → Type 0
Quiet a = (rank : Before) (g s : State) → FairAct rank g s a

-- What lists of phases keep.
abbrev RunPhase : PhaseActs → Type 0
RunPhase p = (s : State) → AllByRecursion (OfRun s.figures) (p s)

abbrev PhaseAll : (Act → Type 0) → PhaseActs → Type 0
PhaseAll P p = (s : State) → AllByRecursion P (p s)

module _ (R : Figures → Figures → Type 0) (same : (f : Figures) → R f f) (on : (f g e : Figures) → R f g → R g e → R f e) where
  kept_performed : (s : State) (l : List Act) → Shape s.figures → AllByRecursion (OfRun s.figures) l → AllByRecursion (Keeps R) l → R s.figures (performed s l).figures
  kept_performed s [] h o k = same s.figures
  kept_performed s (a ∷ l) h o k =
      on _ _ _ (k.0 s.figures (amount s a) h o.0)
      (kept_performed (after_act s a) l (shape_noted s.figures a (amount s a) h)
      (all_of_run _ _ (later_noted s.figures a (amount s a) h o.0) l o.1) k.1)

  kept_phases : (ps : List PhaseActs) → AllByRecursion RunPhase ps → AllByRecursion (PhaseAll (Keeps R)) ps → (s : State) → Shape s.figures
      → R s.figures (performed s (in_phases ps s)).figures
  kept_phases [] o k s h = same s.figures
  kept_phases (p ∷ ps) o k s h =
      subst (λ (g : State). R s.figures g.figures) (sym (performed_append s (p s) (in_phases ps (performed s (p s)))))
      (on _ _ _ (kept_performed s (p s) h (o.0 s) (k.0 s))
      (kept_phases ps o.1 k.1 (performed s (p s)) (shape_performed s (p s) h)))

all_any : {A : Type 0} (P : A → Type 0) → ((x : A) → P x) → (xs : List A) → AllByRecursion P xs
all_any P f [] = tt
all_any P f (x ∷ xs) = (f x, all_any P f xs)

later_phases : (ps : List PhaseActs) → AllByRecursion RunPhase ps → (s : State) → Shape s.figures → Later s.figures (performed s (in_phases ps s)).figures
later_phases ps o s h =
    kept_phases Later later_same later_trans ps o
    (all_any (PhaseAll (Keeps Later)) (λ p g. all_any (Keeps Later) (λ a f x h o. later_noted f a x h o) (p g)) ps) s h

-- What holds of the acts of each phase.
every_difference : (P : Act → Type 0) → ((i : ℕ) → P (settle i)) → PhaseAll P differences
every_difference P f s = all_map P settle (due_today s.figures) (all_any (λ i. P (settle i)) f (due_today s.figures))

every_delivery : (P : Act → Type 0) → ((i : ℕ) → P (give i)) → ((i : ℕ) → P (give_escrow i)) → (rank : Before) → PhaseAll P (deliveries rank)
every_delivery P f g rank s =
    let js = in_run rank s.figures (delivering s.figures) in
    all_each P deliveries_of js (all_any (λ i. AllByRecursion P (deliveries_of i)) (λ i. (f i, (g i, tt))) js)

every_payment : (P : Act → Type 0) → ((m : ℕ) (from : Source) → P (pay m from)) → PhaseAll P payments
every_payment P f s =
    all_each P payments_of (all_members s)
    (all_any (λ m. AllByRecursion P (payments_of m)) (λ m. (f m own, (f m from_collateral, (f m from_contribution, (f m from_reserve, tt))))) (all_members s))

every_payout : (P : Act → Type 0) → ((m n : ℕ) → P (pay_out m n)) → PhaseAll P payouts
every_payout P f s = all_map P (λ m. pay_out m (share s m)) (all_members s) (all_any (λ m. P (pay_out m (share s m))) (λ m. f m (share s m)) (all_members s))

every_repayment : (P : Act → Type 0) → ((m : ℕ) → P (repay m)) → ((m : ℕ) → P (pay_charges m)) → PhaseAll P repayments
every_repayment P f g s =
    all_each P repayments_of (all_members s) (all_any (λ m. AllByRecursion P (repayments_of m)) (λ m. (f m, (g m, tt))) (all_members s))

every_pass : (P : Act → Type 0) → ((m t : ℕ) → P (pass m t)) → PhaseAll P passings
every_pass P f s =
    all_each P (passings_of s) (all_members s) (all_any (λ m. AllByRecursion P (passings_of s m))
    (λ m. all_map P (pass m) (all_securities s) (all_any (λ t. P (pass m t)) (f m) (all_securities s))) (all_members s))

every_mark : (P : Act → Type 0) → ((i : ℕ) → P (mark_line i)) → ((m : ℕ) → P (mark m)) → PhaseAll P marks
every_mark P f g s =
    all_append P (map mark_line (all_places s)) (map mark (all_members s))
    (all_map P mark_line (all_places s) (all_any (λ i. P (mark_line i)) f (all_places s))) (all_map P mark (all_members s) (all_any (λ m. P (mark m)) g (all_members s)))

every_charge : (P : Act → Type 0) → ((m : ℕ) → P (charge m)) → PhaseAll P chargings
every_charge P f s = all_map P charge (all_members s) (all_any (λ m. P (charge m)) f (all_members s))

-- The phases of a run behind the servings.
abbrev after_servings : List PhaseActs → List PhaseActs
after_servings last = payments ∷ payouts ∷ repayments ∷ passings ∷ last

run_after : (last : List PhaseActs) → AllByRecursion RunPhase last → AllByRecursion RunPhase (after_servings last)
run_after last o = (run_payments, (run_payouts, (run_repayments, (run_passings, o))))

-- They change no rest.
rests_after : (last : List PhaseActs) → AllByRecursion (PhaseAll (Keeps SameRests)) last → AllByRecursion (PhaseAll (Keeps SameRests)) (after_servings last)
rests_after last k = (
  every_payment (Keeps SameRests) (λ m from f x h o j. refl),
  (
    every_payout (Keeps SameRests) (λ m n f x h o j. refl),
    (
      every_repayment (Keeps SameRests) (λ m f x h o j. refl) (λ m f x h o j. refl),
      (every_pass (Keeps SameRests) (λ m t f x h o j. refl), k),
    ),
  ),
)

-- What closes a run: acts of a run that serve and pass nothing and change no rest, position or advance.
record Closing (last : List PhaseActs) : Type 0 where
  runs : AllByRecursion RunPhase last
  quiet : AllByRecursion (PhaseAll Quiet) last
  rests : AllByRecursion (PhaseAll (Keeps SameRests)) last
  debts : AllByRecursion (PhaseAll (Keeps SameDebts)) last

marks_close : Closing (marks ∷ [])
marks_close = record {
  runs = (run_marks, tt);
  quiet = (every_mark Quiet (λ i rank g s. tt) (λ m rank g s. tt), tt);
  rests = (every_mark (Keeps SameRests) (λ i f x h o. rests_with f i (line_marked (line f.register i)) h o.0 refl) (λ m f x h o j. refl), tt);
  debts = (every_mark (Keeps SameDebts) mark_line_debts mark_debts, tt);
}

chargings_close : Closing (chargings ∷ [])
chargings_close = record {
  runs = (run_chargings, tt);
  quiet = (every_charge Quiet (λ m rank g s. tt), tt);
  rests = (every_charge (Keeps SameRests) (λ m f x h o j. refl), tt);
  debts = (every_charge (Keeps SameDebts) charge_debts, tt);
}

-- After the servings nothing is in hand, and so at the end of the run.
steps_exhaust : (rank : Before) (last : List PhaseActs) → Closing last → (s : State) → Shape s.figures → UndueEmpty s
    → (d t : ℕ) → in_hand (performed s (in_phases (steps rank last) s)).figures.register d t ≡ 0
steps_exhaust rank last c s h z d t =
    let s₁ = performed s (deliveries rank s) in
    let h₁ = shape_performed s (deliveries rank s) h in
    let s₂ = performed s₁ (servings rank s₁) in
    let h₂ = shape_performed s₁ (servings rank s₁) h₁ in
    let undue : UndueEmpty s₁ = performed_keeps UndueEmpty undue_stays_empty s (deliveries rank s) h (run_deliveries rank s) z in
    let ps = after_servings last in
    let o = run_after last c.runs in
    ap (λ (g : State). in_hand g.figures.register d t)
    (performed_append s (deliveries rank s) (in_phases (servings rank ∷ ps) s₁) ∙ performed_append s₁ (servings rank s₁) (in_phases ps s₂))
    ∙ (hand_same d t s₂.figures (performed s₂ (in_phases ps s₂)).figures (later_phases ps o s₂ h₂)
    (λ j e. kept_phases SameRests (λ f j. refl) (λ f g e p q j. q j ∙ p j) ps o (rests_after last c.rests) s₂ h₂ j)
    ∙ servings_exhaust rank s₁ h₁ undue d t)

pub two_exhausts : (rank : Before) (s : State) → Rested s → (d t : ℕ) → in_hand (performed s (acts rank s Two)).figures.register d t ≡ 0
two_exhausts rank s r d t = steps_exhaust rank (chargings ∷ []) chargings_close s r.works.shape (λ d t u. r.none_in_hand d t) d t

pub noon_exhausts : (rank : Before) (s : State) → Rested s → (d t : ℕ) → in_hand (performed s (acts rank s Noon)).figures.register d t ≡ 0
noon_exhausts rank s r d t =
    let h = r.works.shape in
    let s₁ = performed s (differences s) in
    ap (λ (g : State). in_hand g.figures.register d t) (performed_append s (differences s) (in_phases (steps rank (marks ∷ [])) s₁))
    ∙ steps_exhaust rank (marks ∷ []) marks_close s₁ (shape_performed s (differences s) h)
    (performed_keeps UndueEmpty undue_stays_empty s (differences s) h (run_differences s) (λ d t u. r.none_in_hand d t)) d t

-- e has the lines of g, with rests no larger, and its positions and advances: so an event leaves the state in which its acts end.
record Ends (g e : State) : Type 0 where
  lowered : Lowered g.figures e.figures
  debts : SameDebts g.figures e.figures

-- From a state in which W holds the acts of the phases are in order, in the states that they find and again at the end.
abbrev FairRun : Before → (State → Type 0) → List PhaseActs → Type 0
FairRun rank W ps = (s e : State) → W s → Ends (performed s (in_phases ps s)) e → Along (FairBoth rank e) s (in_phases ps s)

abbrev Shaped : State → Type 0
Shaped s = Shape s.figures

module _ (rank : Before) (W V : State → Type 0) (p : PhaseActs) (ps : List PhaseActs) (next : (s : State) → W s → V (performed s (p s))) (rest : FairRun rank V ps) where
  ends_next : (s e : State) → Ends (performed s (in_phases (p ∷ ps) s)) e → Ends (performed (performed s (p s)) (in_phases ps (performed s (p s)))) e
  ends_next s e z = subst (λ (g : State). Ends g e) (performed_append s (p s) (in_phases ps (performed s (p s)))) z

  fair_phase : ((s e : State) → W s → Ends (performed s (in_phases (p ∷ ps) s)) e → Along (FairBoth rank e) s (p s)) → FairRun rank W (p ∷ ps)
  fair_phase here s e w z =
      along_append (FairBoth rank e) s (p s) (in_phases ps (performed s (p s))) (here s e w z) (rest (performed s (p s)) e (next s w) (ends_next s e z))

  fair_quiet : PhaseAll Quiet p → FairRun rank W (p ∷ ps)
  fair_quiet q = fair_phase (λ s e w z. quiet_fair e s (p s) (q s))
    where
      quiet_fair : (e s : State) (l : List Act) → AllByRecursion Quiet l → Along (FairBoth rank e) s l
      quiet_fair e s [] q = tt
      quiet_fair e s (a ∷ l) q = ((q.0 rank s s, q.0 rank e s), quiet_fair e (after_act s a) l q.1)

shape_next : (p : PhaseActs) (s : State) → Shaped s → Shaped (performed s (p s))
shape_next p s h = shape_performed s (p s) h

fair_closing : (rank : Before) (ps : List PhaseActs) → AllByRecursion (PhaseAll Quiet) ps → FairRun rank Shaped ps
fair_closing rank [] q = λ s e h z. tt
fair_closing rank (p ∷ ps) q = fair_quiet rank Shaped Shaped p ps (shape_next p) (fair_closing rank ps q.1) q.0

fair_pass_phase : (rank : Before) (last : List PhaseActs) → Closing last → FairRun rank Shaped (passings ∷ last)
fair_pass_phase rank last c =
    fair_phase rank Shaped Shaped passings last (shape_next passings) (fair_closing rank last c.quiet)
    (λ s e h z. fair_passings rank s e
    (same_debts_trans _ _ _
    (kept_phases SameDebts same_debts same_debts_trans (passings ∷ last) (run_passings, c.runs) (every_pass (Keeps SameDebts) pass_debts, c.debts) s h)
    z.debts))

fair_after_servings : (rank : Before) (last : List PhaseActs) → Closing last → FairRun rank Shaped (after_servings last)
fair_after_servings rank last c =
    fair_quiet rank Shaped Shaped payments (payouts ∷ repayments ∷ passings ∷ last) (shape_next payments)
    (fair_quiet rank Shaped Shaped payouts (repayments ∷ passings ∷ last) (shape_next payouts)
    (fair_quiet rank Shaped Shaped repayments (passings ∷ last) (shape_next repayments) (fair_pass_phase rank last c)
    (every_repayment Quiet (λ m rank g s. tt) (λ m rank g s. tt)))
    (every_payout Quiet (λ m n rank g s. tt)))
    (every_payment Quiet (λ m from rank g s. tt))

-- Servings that are in order in the states that they find are so at the end.
serves_both : (rank : Before) (s e : State) (js : List ℕ) → Shape s.figures → AllByRecursion (OfRun s.figures) (map serve js)
    → Lowered (performed s (map serve js)).figures e.figures → Along (λ g a. FairAct rank g g a) s (map serve js) → Along (FairBoth rank e) s (map serve js)
serves_both rank s e [] h o l fair = tt
serves_both rank s e (i ∷ js) h o l fair = (
  (fair.0, fair_later rank s e i (lowered_trans _ _ _ (lowered_later _ _ (later_performed s (map serve (i ∷ js)) h o)) l) fair.0),
  serves_both rank (after_act s (serve i)) e js (shape_noted s.figures (serve i) (amount s (serve i)) h)
      (all_of_run _ _ (serve_later s i h o.0) (map serve js) o.1) l fair.1,
)

-- The phases up to the servings keep what holds within a run.
abbrev pub PhasesWork : Before → Type 0
PhasesWork rank = (s : State) → Working s → Working (performed s (differences s)) × Working (performed s (deliveries rank s)) × Working (performed s (servings rank s))

module _ (rank : Before) (law : (p : ℕ) → Lawful (rank p)) (phase_works : PhasesWork rank) where
  fair_serving_phase : (last : List PhaseActs) → Closing last → FairRun rank Working (servings rank ∷ after_servings last)
  fair_serving_phase last c =
      fair_phase rank Working Shaped (servings rank) (after_servings last) (λ s w. shape_next (servings rank) s w.shape) (fair_after_servings rank last c)
      (λ s e w z.
      let s₁ = performed s (servings rank s) in
      serves_both rank s e (in_run rank s.figures (receiving s.figures)) w.shape (run_servings rank s)
      (lowered_trans _ _ _ (lowered_later _ _ (later_phases (after_servings last) (run_after last c.runs) s₁ (shape_performed s (servings rank s) w.shape)))
      (subst (λ (g : State). Ends g e) (performed_append s (servings rank s) (in_phases (after_servings last) s₁)) z).lowered)
      (fair_servings rank law s w))

  fair_steps : (last : List PhaseActs) → Closing last → FairRun rank Working (steps rank last)
  fair_steps last c =
      fair_quiet rank Working Working (deliveries rank) (servings rank ∷ after_servings last) (λ s w. (phase_works s w).1) (fair_serving_phase last c)
      (every_delivery Quiet (λ i rank g s. tt) (λ i rank g s. tt) rank)

  fair_noon : FairRun rank Working (noon_run rank)
  fair_noon =
      fair_quiet rank Working Working differences (steps rank (marks ∷ [])) (λ s w. (phase_works s w).0) (fair_steps (marks ∷ []) marks_close)
      (every_difference Quiet (λ i rank g s. tt))

ends_in_phase : (g : State) (p : Phase) → Ends g (in_phase g p)
ends_in_phase g p = record {
  lowered = record { count = refl; claim = λ j. refl; price = λ j. refl; rest = λ j. omega arith };
  debts = record { positions = λ m. refl; advances = λ m. refl };
}

pub noon_in_order : (rank : Before) → ((p : ℕ) → Lawful (rank p)) → PhasesWork rank → (s : State) → Rested s → (x : Entry) → x.event ≡ Noon → InOrder rank s x
noon_in_order rank law works s r x e =
    subst (λ (v : Event). Along (λ g a. FairAct rank g g a × FairAct rank (effect rank s v) g a) s (acts rank s v)) (sym e)
    (fair_noon rank law works s (effect rank s Noon) r.works (ends_in_phase (performed s (acts rank s Noon)) Late))

pub two_in_order : (rank : Before) → ((p : ℕ) → Lawful (rank p)) → PhasesWork rank → (s : State) → Rested s → (x : Entry) → x.event ≡ Two → InOrder rank s x
two_in_order rank law works s r x e =
    subst (λ (v : Event). Along (λ g a. FairAct rank g g a × FairAct rank (effect rank s v) g a) s (acts rank s v)) (sym e)
    (fair_steps rank law works (chargings ∷ []) chargings_close s (effect rank s Two) r.works (ends_in_phase (performed s (acts rank s Two)) Shut))
