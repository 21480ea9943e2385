-- Lives of a house: the opened state, what asks the book for a movement, totals, and the laws of settlement.
use Rattle.std.proofs.Common.{◌≡◌, ℕ, suc, ◌+◌, ◌-◌, ◌*◌, ◌<◌, ◌≤◌, Bool, true, false, cond, ◌&&◌, eqb, ltb, List, [], ◌∷◌, length, get_or, set, replicate, ℤ, pos, ◌+ℤ◌, nat_abs, sym, refl, ap, ◌∙◌, subst, ⊎_elim, arith, length-set}
use lib.ListN.{length-replicate}
use Rattle.std.proofs.lemmas.List.{get_or-replicate, get_or_past}
use Rattle.std.proofs.lemmas.Bool.Decides.{nat_tests}
use Rattle.std.proofs.lemmas.Bool.{cases_eq, cases_lt, eq-eqb, ne_eqb, eqb-true, eqb-false, leb-true, leb-false, ltb-false, not-false, both_ways, and_parts, cond-true, cond-false, cond_both}
use Rattle.std.specs.List.{AllByRecursion}
use Rattle.book.specs.Ledger.{Ledger, Balances, sum_to, total, with_held, most_amount}
use Rattle.book.specs.Movement.{Movement, Put, Pull, Move, movement_number, after}
use Rattle.book.specs.Laws.{put_in, taken_out}
use Rattle.book.specs.Posting.{posted, takes_move}
use Rattle.book.specs.Refusals.{Refusal}
use Rattle.book.proofs.Sums.{sum_zero}
use Rattle.book.proofs.Accepted.{put_accepted}
use Rattle.book.proofs.Totals.{total_of_move, total_of_accepted}
use Rattle.rank.specs.Laws.{Lawful}
use Rattle.rank.specs.declared.claim.Claim.{Claim}
use Rattle.rank.specs.declared.key.Key.{Key}
use Rattle.rules.specs.declared.fault.HouseFault.{HouseFault}
use Rattle.rules.specs.declared.fault.HouseFault.TheVariants.{NoMember, NoAsset, NoFlag, BadAmount, WrongPhase, Bound, BelowRequirement, NoPlace, LineTooLarge, PositionTooLarge, NoClose, NothingOpen, TooEarly, LastDay, UnfitBook, BadCounts, Book}
use Rattle.rules.specs.declared.event.Event.{Event}
use Rattle.rules.specs.declared.event.Event.TheVariants.{Bring, Take, Endow, Pledge, Refund, Contribute, Novate, Price, Noon, Two, End, BuyIn, SellOut, CashSettle}
use Rattle.register.specs.declared.line.Line.{Line}
use Rattle.rules.specs.declared.figures.Member.{Member}
use Rattle.rules.specs.declared.figures.Row.{Row}
use Rattle.rules.specs.declared.figures.Phase.{Phase}
use Rattle.rules.specs.declared.figures.Phase.TheVariants.{Morning, Late, Shut}
use Rattle.rules.specs.declared.figures.Clock.{Clock}
use Rattle.register.specs.declared.Register.{Register}
use Rattle.rules.specs.declared.figures.Figures.{Figures}
use Rattle.rules.specs.Limits.{most_members, most_securities, last_day}
use Rattle.rules.specs.Faults.{refusal, answer_by, is_accepted}
use Rattle.rules.specs.State.{State, total_of, pool, escrow, reserve, settlement, collateral, contribution, cash, no_member, no_row, position, in_escrow, today, with_clock, with_closes, with_figures, with_balances, put_close, opened, opened_figures}
use Rattle.register.specs.Lines.{no_line, line, key, delivers, receives, in_group, due_by, in_hand, sum_z, sum_z_if, with_line}
use Rattle.rules.specs.Run.{Act, settle, give, give_escrow, serve, pay, pay_out, repay, pay_charges, pass, mark_line, mark, charge, compensate, close_line, require, amount, from_account, to_account, moved_asset, noted, after_act, performed, Along, Before, PhaseActs, in_phases, steps, noon_run, two_run, differences, marks, chargings, line_settled, line_given, line_served, line_marked}
use Rattle.register.specs.Netting.{due_day}
use Rattle.rules.specs.Day.{closings, requirements, cleared_day, cash_settlements}
use Rattle.rules.specs.Events.{event_refusals, answer, acts, asked, after_all, balances_asked, in_phase, is_morning, is_late, is_shut, cash_day, run_space, effect}
use Rattle.rules.specs.Life.{Entry, taken, next, lived, asked_sum, all_taken, FairAct, InOrder, Shows, PostingTaken, AskedTaken, AllTaken, moves, FewMoves, Throughout, Laws, SettlementLaws}
use Rattle.rules.specs.Fit.{Shape}
use Rattle.rules.proofs.Written.{line_with}
use Rattle.rules.proofs.Sums.{sum_z_same, sum_z_zero, part_z}
use Rattle.rules.proofs.Acts.{OfRun, Later, later_same, later_trans, later_noted, shape_noted, shape_performed, performed_append, performed_keeps, run_differences, run_deliveries, run_servings, run_payments, run_payouts, run_repayments, run_passings, run_marks, run_chargings}
use Rattle.rules.proofs.Invariants.{Working, Rested, days}
use Rattle.rules.proofs.Groups.{same_if, none_if, known_like, matched_rested}
use Rattle.rules.proofs.Netted.{good_trade, rested_traded}
use Rattle.rules.proofs.Ended.{places_induct, rested_end, rested_cash}

-- The opened state.
no_shares : (m s k t : ℕ) → in_escrow (opened_figures m s) k t ≡ 0
no_shares m s k t =
    ⊎_elim
    (λ l. ap (λ (y : Row). get_or y.shares t 0) (get_or-replicate 25 k (record { shares = replicate 17 0 }) no_row l)
    ∙ ⊎_elim (λ h. get_or-replicate 17 t 0 0 h) (λ h. get_or_past (replicate 17 0) t 0 h) (cases_lt t 17))
    (λ l. ap (λ (y : Row). get_or y.shares t 0) (get_or_past (replicate 25 (record { shares = replicate 17 0 })) k no_row l))
    (cases_lt k 25)

no_position : (m s k : ℕ) → position (opened_figures m s) k ≡ pos 0
no_position m s k =
    ap (λ (r : Member). r.position)
    (⊎_elim (λ l. get_or-replicate 25 k no_member no_member l) (λ l. get_or_past (replicate 25 no_member) k no_member l) (cases_lt k 25))

shape_opened : (m s : ℕ) → 0 < m → m ≤ most_members → 0 < s → s ≤ most_securities → Shape (opened_figures m s)
shape_opened m s m₀ m₁ s₀ s₁ = record {
  some_member = m₀;
  few_members = m₁;
  some_security = s₀;
  few_securities = s₁;
  some_day = omega arith;
  last = omega arith;
  few_lines = omega arith;
  places = length-replicate 512 no_line;
  records = length-replicate 25 no_member;
  rows = length-replicate {A = Row} 25 (record { shares = replicate 17 0 });
  cells = λ k l. ap (λ (y : Row). length y.shares) (get_or-replicate 25 k (record { shares = replicate 17 0 }) no_row l);
  closes = length-replicate {A = ℕ} 17 0;
}

working_opened : (m s : ℕ) → 0 < m → m ≤ most_members → 0 < s → s ≤ most_securities → Working (opened m s)
working_opened m s m₀ m₁ s₀ s₁ = record {
  shape = shape_opened m s m₀ m₁ s₀ s₁;
  lines = record { known = λ i l. absurd (omega arith); differ = λ i j l. absurd (omega arith); one_price = λ i j l. absurd (omega arith) };
  accounts = refl;
  assets = refl;
  small = λ t. let z = sum_zero (3 * m + 3) (λ a. 0) (λ a. refl) in omega arith;
  escrowed = λ t p. sum_zero (suc m) (λ k. in_escrow (opened_figures m s) k t) (λ k. no_shares m s k t);
  pooled = λ t p. sum_zero days (λ d. in_hand (opened_figures m s).register d t) (λ d. refl);
  covered = λ d t. omega arith;
  balanced = let z = sum_z_zero (suc m) (position (opened_figures m s)) (λ k l. no_position m s k) in ap (λ (x : ℤ). x +ℤ pos 0) z;
}

pub rested_opened : (m s : ℕ) → 0 < m → m ≤ most_members → 0 < s → s ≤ most_securities → Rested (opened m s)
rested_opened m s m₀ m₁ s₀ s₁ = record {
  works = working_opened m s m₀ m₁ s₀ s₁;
  none_in_hand = λ d t. refl;
  level = λ d t. refl;
  fresh = λ t. refl;
  whole = λ i l. absurd (omega arith);
  unpriced = λ i l. absurd (omega arith);
  settled = λ i l. absurd (omega arith);
  within = λ i l. absurd (omega arith);
}

-- An accepted answer: no refusal of the list applied.
refusal_refuses : (x : HouseFault) → is_accepted (refusal x) ≡ false
refusal_refuses NoMember = refl
refusal_refuses NoAsset = refl
refusal_refuses NoFlag = refl
refusal_refuses BadAmount = refl
refusal_refuses WrongPhase = refl
refusal_refuses Bound = refl
refusal_refuses BelowRequirement = refl
refusal_refuses NoPlace = refl
refusal_refuses LineTooLarge = refl
refusal_refuses PositionTooLarge = refl
refusal_refuses NoClose = refl
refusal_refuses NothingOpen = refl
refusal_refuses TooEarly = refl
refusal_refuses LastDay = refl
refusal_refuses UnfitBook = refl
refusal_refuses BadCounts = refl
refusal_refuses (Book f) = refl

none_applied : (rs : List (Refusal HouseFault)) → is_accepted (answer_by rs) ≡ true → AllByRecursion (λ (r : Refusal HouseFault). r.applies ≡ false) rs
none_applied [] e = tt
none_applied (r ∷ rs) e = let p = go r.applies e in (p.0, none_applied rs p.1)
  where
    go : (b : Bool) → is_accepted (cond b (refusal r.fault) (answer_by rs)) ≡ true → (b ≡ false) × (is_accepted (answer_by rs) ≡ true)
    go true a = absurd (both_ways (is_accepted (refusal r.fault)) (refusal_refuses r.fault) a)
    go false a = (refl, a)

-- The book that shows a state and a space.
abbrev book_of : State → ℕ → Ledger
book_of s space = record { accounts = s.accounts; assets = s.assets; space = space; held = s.held }

shown : (b : Ledger) (s : State) (space : ℕ) → Shows b s → b.space ≡ space → book_of s space ≡ b
shown b s space h e = λ i. record { accounts = sym h.accounts i; assets = sym h.assets i; space = sym e i; held = sym h.held i }

-- The book takes the movement that an accepted event asks for.
module _ (s : State) (w : Working s) (space : ℕ) where
  taken_bring : (m t n : ℕ) → is_accepted (answer s (Bring m t n) space) ≡ true → movement_number (book_of s space) (Put (settlement m) t n) ≡ 0
  taken_bring m t n e = let a = w.accounts in let b = w.assets in grind (arith, nat_tests)

  taken_take : (m t n : ℕ) → is_accepted (answer s (Take m t n) space) ≡ true → movement_number (book_of s space) (Pull (settlement m) t n) ≡ 0
  taken_take m t n e = let a = w.accounts in let b = w.assets in grind (arith, nat_tests)

  taken_endow : (n : ℕ) → is_accepted (answer s (Endow n) space) ≡ true → movement_number (book_of s space) (Put reserve cash n) ≡ 0
  taken_endow n e = let a = w.accounts in let b = w.assets in grind (arith, nat_tests)

  taken_pledge : (m n : ℕ) → is_accepted (answer s (Pledge m n) space) ≡ true → movement_number (book_of s space) (Move (settlement m) (collateral m) cash n) ≡ 0
  taken_pledge m n e = let a = w.accounts in let b = w.assets in grind (arith, nat_tests)

  taken_refund : (m n : ℕ) → is_accepted (answer s (Refund m n) space) ≡ true → movement_number (book_of s space) (Move (collateral m) (settlement m) cash n) ≡ 0
  taken_refund m n e = let a = w.accounts in let b = w.assets in grind (arith, nat_tests)

  taken_contribute : (m n : ℕ) → is_accepted (answer s (Contribute m n) space) ≡ true → movement_number (book_of s space) (Move (settlement m) (contribution m) cash n) ≡ 0
  taken_contribute m n e = let a = w.accounts in let b = w.assets in grind (arith, nat_tests)

  -- Each event's own movement, if it asks for one, is taken by the book that shows the state.
  movements_taken : (e : Event) → is_accepted (answer s e space) ≡ true → AllByRecursion (λ m. movement_number (book_of s space) m ≡ 0) (asked e)
  movements_taken (Bring m t n) a = (taken_bring m t n a, tt)
  movements_taken (Take m t n) a = (taken_take m t n a, tt)
  movements_taken (Endow n) a = (taken_endow n a, tt)
  movements_taken (Pledge m n) a = (taken_pledge m n a, tt)
  movements_taken (Refund m n) a = (taken_refund m n a, tt)
  movements_taken (Contribute m n) a = (taken_contribute m n a, tt)
  movements_taken (Novate t) a = tt
  movements_taken (Price t p) a = tt
  movements_taken Noon a = tt
  movements_taken Two a = tt
  movements_taken End a = tt
  movements_taken (BuyIn due t) a = tt
  movements_taken (SellOut t) a = tt
  movements_taken (CashSettle due t highest risk) a = tt

pub asked_taken : (s : State) (space : ℕ) (e : Event) → Working s → is_accepted (answer s e space) ≡ true → AskedTaken s space (asked e)
asked_taken s space e w a = go (asked e) (movements_taken s w space e a)
  where
    go : (ms : List Movement) → AllByRecursion (λ m. movement_number (book_of s space) m ≡ 0) ms → AskedTaken s space ms
    go [] h = tt
    go (m ∷ ms) h = ((λ b sound shows e. subst (λ (q : Ledger). movement_number q m ≡ 0) (shown b s space shows e) h.0), go ms h.1)

-- Other balances, of accounts that are neither the pool nor escrow.
rested_held : (s : State) (h : Balances) → ((t : ℕ) → sum_to s.accounts (λ a. h a t) ≤ most_amount)
    → ((t : ℕ) → h pool t ≡ s.held pool t) → ((t : ℕ) → h escrow t ≡ s.held escrow t) → Rested s → Rested (with_balances s h)
rested_held s h small p e r = let w = r.works in record {
  none_in_hand = r.none_in_hand;
  level = r.level;
  fresh = r.fresh;
  whole = r.whole;
  unpriced = r.unpriced;
  settled = r.settled;
  within = r.within;
  works = record {
    shape = w.shape;
    lines = w.lines;
    accounts = w.accounts;
    assets = w.assets;
    small = small;
    escrowed = λ t o. w.escrowed t o ∙ sym (e t);
    pooled = λ t o. w.pooled t o ∙ sym (p t);
    covered = w.covered;
    balanced = ap (λ (x : ℕ). sum_z (suc s.figures.size.members) (position s.figures) +ℤ pos x) (p cash) ∙ w.balanced;
  };
}

-- A movement of accounts behind the pool and escrow.
abbrev Behind : Movement → Type 0
Behind (Put a t n) = 1 < a
Behind (Pull a t n) = 1 < a
Behind (Move a c t n) = (1 < a) × (1 < c)

behind_asked : (s : State) (space : ℕ) (e : Event) → is_accepted (answer s e space) ≡ true → AllByRecursion Behind (asked e)
behind_asked s space (Bring m t n) a = (grind (arith, nat_tests), tt)
behind_asked s space (Take m t n) a = (grind (arith, nat_tests), tt)
behind_asked s space (Endow n) a = (omega arith, tt)
behind_asked s space (Pledge m n) a = ((grind (arith, nat_tests), grind (arith, nat_tests)), tt)
behind_asked s space (Refund m n) a = ((grind (arith, nat_tests), grind (arith, nat_tests)), tt)
behind_asked s space (Contribute m n) a = ((grind (arith, nat_tests), grind (arith, nat_tests)), tt)
behind_asked s space (Novate t) a = tt
behind_asked s space (Price t p) a = tt
behind_asked s space Noon a = tt
behind_asked s space Two a = tt
behind_asked s space End a = tt
behind_asked s space (BuyIn due t) a = tt
behind_asked s space (SellOut t) a = tt
behind_asked s space (CashSettle due t highest risk) a = tt

held_other : (f : Balances) (a t v x y : ℕ) → (x ≡ a → ⊥) → with_held f a t v x y ≡ f x y
held_other f a t v x y n = ap (λ b. cond (b && eqb y t) v (f x y)) (ne_eqb x a n)

held_behind : (f : Balances) (m : Movement) → Behind m → (x y : ℕ) → x ≤ 1 → after f m x y ≡ f x y
held_behind f (Put a t n) b x y l = held_other f a t _ x y (λ e. omega arith)
held_behind f (Pull a t n) b x y l = held_other f a t _ x y (λ e. omega arith)
held_behind f (Move a c t n) b x y l =
    let p = b.0 in let q = b.1 in
    held_other (with_held f a t (f a t - n)) c t _ x y (λ e. omega arith) ∙ held_other f a t _ x y (λ e. omega arith)

-- A taken movement changes each total by what it puts in and takes out; no total passes the limit.
small_taken : (s : State) (space : ℕ) (m : Movement) → Working s → movement_number (book_of s space) m ≡ 0 → (t : ℕ) → sum_to s.accounts (λ a. after s.held m a t) ≤ most_amount
small_taken s space (Put a u n) w e t =
    let f = total_of_accepted (book_of s space) (Put a u n) e t in
    let k = w.small t in
    let l = (put_accepted (book_of s space) a u n e).within in
    ⊎_elim
    (λ (q : t ≡ u). let d : total (book_of s space) t ≡ total (book_of s space) u = ap (total (book_of s space)) q in let i : cond (eqb t u) n 0 ≡ n = ap (λ x. cond x n 0) (eq-eqb t u q) in omega arith)
    (λ d. let i : cond (eqb t u) n 0 ≡ 0 = ap (λ x. cond x n 0) (ne_eqb t u d) in omega arith)
    (cases_eq t u)
small_taken s space (Pull a u n) w e t = let f = total_of_accepted (book_of s space) (Pull a u n) e t in let k = w.small t in omega arith
small_taken s space (Move a c u n) w e t = let f = total_of_accepted (book_of s space) (Move a c u n) e t in let k = w.small t in omega arith

rested_moved : (s : State) (space : ℕ) (m : Movement) → Behind m → movement_number (book_of s space) m ≡ 0 → Rested s → Rested (with_balances s (after s.held m))
rested_moved s space m b e r =
    rested_held s (after s.held m) (small_taken s space m r.works e)
    (λ t. held_behind s.held m b pool t (omega arith)) (λ t. held_behind s.held m b escrow t (omega arith)) r

-- An event asks for one movement at most.
asked_few : (e : Event) → length (asked e) ≤ 1
asked_few (Bring m t n) = omega arith
asked_few (Take m t n) = omega arith
asked_few (Endow n) = omega arith
asked_few (Pledge m n) = omega arith
asked_few (Refund m n) = omega arith
asked_few (Contribute m n) = omega arith
asked_few (Novate t) = omega arith
asked_few (Price t p) = omega arith
asked_few Noon = omega arith
asked_few Two = omega arith
asked_few End = omega arith
asked_few (BuyIn due t) = omega arith
asked_few (SellOut t) = omega arith
asked_few (CashSettle due t highest risk) = omega arith

-- Bring, take, endow, pledge, refund, contribute; the other events ask for nothing.
pub rested_asked : (s : State) (space : ℕ) (e : Event) → is_accepted (answer s e space) ≡ true → Rested s → Rested (balances_asked s e)
rested_asked s space e a r = go (asked e) (asked_few e) (behind_asked s space e a) (movements_taken s r.works space e a)
  where
    go : (ms : List Movement) → length ms ≤ 1 → AllByRecursion Behind ms → AllByRecursion (λ m. movement_number (book_of s space) m ≡ 0) ms → Rested (with_balances s (after_all s.held ms))
    go [] l b t = r
    go (m ∷ []) l b t = rested_moved s space m b.0 t.0 r
    go (m ∷ k ∷ ms) l b t = absurd (omega arith)

-- Acts keep every total.
total_posted : (k n : ℕ) (f : Balances) (a c u x t : ℕ) → sum_to k (λ b. posted k n f a c u x b t) ≡ sum_to k (λ b. f b t)
total_posted k n f a c u x t = go (takes_move k n f a c u x) refl
  where
    parts : takes_move k n f a c u x ≡ true → (a < k) × (c < k) × (a ≡ c → ⊥) × (x ≤ f a u)
    parts e = (grind (arith, nat_tests), grind (arith, nat_tests), (λ z. grind (arith, nat_tests)), grind (arith, nat_tests))

    go : (b : Bool) → takes_move k n f a c u x ≡ b → sum_to k (λ i. cond b (after f (Move a c u x)) f i t) ≡ sum_to k (λ i. f i t)
    go true e = let z = parts e in total_of_move k f a c u x z.0 z.1 z.2 z.3 t
    go false e = refl

pub total_performed : (s : State) (l : List Act) (t : ℕ) → total_of (performed s l) t ≡ total_of s t
total_performed s [] t = refl
total_performed s (a ∷ l) t =
    total_performed (after_act s a) l t
    ∙ total_posted s.accounts s.assets s.held (from_account s.figures a) (to_account s.figures a) (moved_asset s.figures a) (amount s a) t

-- An accepted event changes each total by what it asks to be put in and taken out.
abbrev Changes : State → State → Event → ℕ → Type 0
Changes s s' e t = total_of s' t + asked_sum taken_out (asked e) t ≡ total_of s t + asked_sum put_in (asked e) t

total_asked : (s : State) (space : ℕ) (e : Event) → Working s → is_accepted (answer s e space) ≡ true → (t : ℕ) → Changes s (balances_asked s e) e t
total_asked s space e w a t = go (asked e) (movements_taken s w space e a) (asked_few e)
  where
    go : (ms : List Movement) → AllByRecursion (λ m. movement_number (book_of s space) m ≡ 0) ms → length ms ≤ 1
        → sum_to s.accounts (λ x. after_all s.held ms x t) + asked_sum taken_out ms t ≡ total_of s t + asked_sum put_in ms t
    go [] h l = refl
    go (m ∷ []) h l = let f = total_of_accepted (book_of s space) m h.0 t in omega arith
    go (m ∷ k ∷ ms) h l = absurd (omega arith)

total_effect : (rank : Before) (s : State) (space : ℕ) (e : Event) → Working s → is_accepted (answer s e space) ≡ true → (t : ℕ) → Changes s (effect rank s e) e t
total_effect rank s space (Bring m u n) w a t = total_asked s space (Bring m u n) w a t
total_effect rank s space (Take m u n) w a t = total_asked s space (Take m u n) w a t
total_effect rank s space (Endow n) w a t = total_asked s space (Endow n) w a t
total_effect rank s space (Pledge m n) w a t = total_asked s space (Pledge m n) w a t
total_effect rank s space (Refund m n) w a t = total_asked s space (Refund m n) w a t
total_effect rank s space (Contribute m n) w a t = total_asked s space (Contribute m n) w a t
total_effect rank s space (Novate u) w a t = refl
total_effect rank s space (Price u p) w a t = refl
total_effect rank s space Noon w a t = ap (λ n. n + 0) (total_performed s (acts rank s Noon) t)
total_effect rank s space Two w a t = ap (λ n. n + 0) (total_performed s (acts rank s Two) t)
total_effect rank s space End w a t = ap (λ n. n + 0) (total_performed (cleared_day s) (requirements (cleared_day s)) t ∙ total_performed s (closings s) t)
total_effect rank s space (BuyIn due u) w a t = refl
total_effect rank s space (SellOut u) w a t = refl
total_effect rank s space (CashSettle due u highest risk) w a t = ap (λ n. n + 0) (total_performed s (cash_settlements s due u highest) t)

total_next : (rank : Before) (s : State) (x : Entry) → Working s → (t : ℕ)
    → total_of (next rank s x) t + cond (taken s x) (asked_sum taken_out (asked x.event) t) 0 ≡ total_of s t + cond (taken s x) (asked_sum put_in (asked x.event) t) 0
total_next rank s x w t = go (taken s x) refl
  where
    go : (b : Bool) → taken s x ≡ b
        → total_of (cond b (effect rank s x.event) s) t + cond b (asked_sum taken_out (asked x.event) t) 0 ≡ total_of s t + cond b (asked_sum put_in (asked x.event) t) 0
    go true e = total_effect rank s x.space x.event w e t
    go false e = refl

-- What a run leaves of the lines: claims, rests of lines not yet due, differences of lines that are not due today, and differences of 0.
record Untouched (day : ℕ) (g e : Register) : Type 0 where
  claim : (j : ℕ) → (line e j).claim ≡ (line g j).claim
  rest : (j : ℕ) → day < (key g j).due → (line e j).rest ≡ (line g j).rest
  difference : (j : ℕ) → ((key g j).due ≡ day → ⊥) → (line e j).difference ≡ (line g j).difference
  none : (j : ℕ) → (line g j).difference ≡ pos 0 → (line e j).difference ≡ pos 0

untouched_same : (day : ℕ) (g : Register) → Untouched day g g
untouched_same day g = record { claim = λ j. refl; rest = λ j l. refl; difference = λ j d. refl; none = λ j e. e }

untouched_trans : (day : ℕ) (f g e : Register) → Untouched day f g → Untouched day g e → Untouched day f e
untouched_trans day f g e p q =
    let due : (j : ℕ) → (key g j).due ≡ (key f j).due = λ j. ap (λ (c : Claim). c.key.due) (p.claim j) in
    record {
      claim = λ j. q.claim j ∙ p.claim j;
      rest = λ j l. q.rest j (subst (λ (n : ℕ). day < n) (sym (due j)) l) ∙ p.rest j l;
      difference = λ j d. q.difference j (λ x. d (sym (due j) ∙ x)) ∙ p.difference j d;
      none = λ j x. q.none j (p.none j x);
    }

-- A line due by today is not due later.
due_by_today : (f : Figures) (i : ℕ) → due_by (today f) (line f.register i) ≡ true → today f < (key f.register i).due → ⊥
due_by_today f i e l = let a = leb-true (key f.register i).due (today f) e in omega arith

untouched_line : (f : Figures) (i : ℕ) (k : Line) → Shape f → i < f.register.count → k.claim ≡ (line f.register i).claim
    → (today f < (key f.register i).due → k.rest ≡ (line f.register i).rest)
    → (((key f.register i).due ≡ today f → ⊥) → k.difference ≡ (line f.register i).difference)
    → ((line f.register i).difference ≡ pos 0 → k.difference ≡ pos 0) → Untouched (today f) f.register (with_line f.register i k)
untouched_line f i k h l c rest difference none = record {
  claim = one (λ j x. x.claim ≡ (line f.register j).claim) c (λ j. refl);
  rest = one (λ j x. today f < (key f.register j).due → x.rest ≡ (line f.register j).rest) rest (λ j m. refl);
  difference = one (λ j x. ((key f.register j).due ≡ today f → ⊥) → x.difference ≡ (line f.register j).difference) difference (λ j m. refl);
  none = one (λ j x. (line f.register j).difference ≡ pos 0 → x.difference ≡ pos 0) none (λ j m. m);
}
  where
    one : (P : ℕ → Line → Type 0) → P i k → ((j : ℕ) → P j (line f.register j)) → (j : ℕ) → P j (line (with_line f.register i k) j)
    one P here there j =
        subst (P j) (sym (line_with f.register i k (let a = h.few_lines in let b = h.places in omega arith) j))
        (cond_both (eqb j i) k (line f.register j) (P j) (λ e. subst (λ (n : ℕ). P n k) (sym (eqb-true j i e)) here) (λ e. there j))

untouched_noted : (f : Figures) (a : Act) (x : ℕ) → Shape f → OfRun f a → Untouched (today f) f.register (noted f a x).register
untouched_noted f (settle i) x h o =
    untouched_line f i (line_settled (line f.register i)) h o.0 refl (λ l. refl) (λ d. absurd (d o.1)) (λ e. refl)
untouched_noted f (give i) x h o =
    untouched_line f i (line_given (line f.register i) x) h o.0 refl (λ l. absurd (due_by_today f i (and_parts (delivers (line f.register i)) _ o.1).1 l)) (λ d. refl) (λ e. e)
untouched_noted f (give_escrow i) x h o =
    untouched_line f i (line_given (line f.register i) x) h o.0 refl (λ l. absurd (due_by_today f i (and_parts (delivers (line f.register i)) _ o.1).1 l)) (λ d. refl) (λ e. e)
untouched_noted f (serve i) x h o =
    untouched_line f i (line_served (line f.register i) x) h o.0 refl (λ l. absurd (due_by_today f i (and_parts (receives (line f.register i)) _ o.1).1 l)) (λ d. refl) (λ e. e)
untouched_noted f (pay m from) x h o = untouched_same (today f) f.register
untouched_noted f (pay_out m n) x h o = untouched_same (today f) f.register
untouched_noted f (repay m) x h o = untouched_same (today f) f.register
untouched_noted f (pay_charges m) x h o = untouched_same (today f) f.register
untouched_noted f (pass m t) x h o = untouched_same (today f) f.register
untouched_noted f (mark_line i) x h o = untouched_line f i (line_marked (line f.register i)) h o.0 refl (λ l. refl) (λ d. refl) (λ e. e)
untouched_noted f (mark m) x h o = untouched_same (today f) f.register
untouched_noted f (charge m) x h o = untouched_same (today f) f.register
untouched_noted f (compensate i c) x h o = absurd o
untouched_noted f (close_line i) x h o = absurd o
untouched_noted f (require m) x h o = absurd o

-- Where a run stands: later than it began, and all that it may not touch is as it was.
record RunFrom (s t : State) : Type 0 where
  shape : Shape t.figures
  later : Later s.figures t.figures
  untouched : Untouched (today s.figures) s.figures.register t.figures.register

run_act : (s t : State) (a : Act) → Shape t.figures → OfRun t.figures a → RunFrom s t → RunFrom s (after_act t a)
run_act s t a h o r = record {
  shape = shape_noted t.figures a (amount t a) h;
  later = later_trans _ _ _ r.later (later_noted t.figures a (amount t a) h o);
  untouched =
      untouched_trans (today s.figures) s.figures.register t.figures.register _ r.untouched
      (subst (λ (c : Clock). Untouched c.day t.figures.register (noted t.figures a (amount t a)).register) r.later.clock (untouched_noted t.figures a (amount t a) h o));
}

-- What each act of a run keeps, its phases keep.
abbrev ListsActs : PhaseActs → Type 0
ListsActs p = (t : State) → AllByRecursion (OfRun t.figures) (p t)

run_phases : (s : State) (ps : List PhaseActs) → AllByRecursion ListsActs ps → (t : State) → RunFrom s t → RunFrom s (performed t (in_phases ps t))
run_phases s [] a t r = r
run_phases s (p ∷ ps) a t r =
    subst (RunFrom s) (sym (performed_append t (p t) (in_phases ps (performed t (p t)))))
    (run_phases s ps a.1 (performed t (p t)) (performed_keeps (RunFrom s) (run_act s) t (p t) r.shape (a.0 t) r))

run_starts : (s : State) → Shape s.figures → RunFrom s s
run_starts s h = record { shape = h; later = later_same s.figures; untouched = untouched_same (today s.figures) s.figures.register }

steps_acts : (rank : Before) (last : PhaseActs) → ListsActs last → AllByRecursion ListsActs (steps rank (last ∷ []))
steps_acts rank last h = (run_deliveries rank, (run_servings rank, (run_payments, (run_payouts, (run_repayments, (run_passings, (h, tt)))))))

noon_runs : (rank : Before) (s : State) → Shape s.figures → RunFrom s (performed s (acts rank s Noon))
noon_runs rank s h = run_phases s (noon_run rank) (run_differences, steps_acts rank marks run_marks) s (run_starts s h)

two_runs : (rank : Before) (s : State) → Shape s.figures → RunFrom s (performed s (acts rank s Two))
two_runs rank s h = run_phases s (two_run rank) (steps_acts rank chargings run_chargings) s (run_starts s h)

-- Noon takes every difference that falls due today.
settled_today : (s : State) → Shape s.figures → (j : ℕ) → j < s.figures.register.count → (key s.figures.register j).due ≡ today s.figures
    → (line (performed s (differences s)).figures.register j).difference ≡ pos 0
settled_today s h j l e =
    (places_induct s settle test s.figures.register Taken s.figures.register.count (h, λ i m. absurd (omega arith)) more skip
    s.figures.register.count (omega arith)).1 j l (eq-eqb _ _ e)
  where
    test : Line → Bool
    test x = eqb x.claim.key.due (today s.figures)

    Taken : ℕ → State → Type 0
    Taken n t = Shape t.figures × ((i : ℕ) → i < n → test (line s.figures.register i) ≡ true → (line t.figures.register i).difference ≡ pos 0)

    more : (n : ℕ) (t : State) → n < s.figures.register.count → test (line s.figures.register n) ≡ true → Taken n t → Taken (suc n) (after_act t (settle n))
    more n t m q r = (
      shape_noted t.figures (settle n) 0 r.0,
      λ i k o. ap (λ (x : Line). x.difference) (line_with t.figures.register n (line_settled (line t.figures.register n)) (let a = h.few_lines in let b = r.0.places in omega arith) i)
          ∙ cond_both (eqb i n) (line_settled (line t.figures.register n)) (line t.figures.register i) (λ (x : Line). x.difference ≡ pos 0)
          (λ x. refl) (λ x. let d = eqb-false i n x in r.1 i (omega arith) o),
    )

    skip : (n : ℕ) (t : State) → n < s.figures.register.count → test (line s.figures.register n) ≡ false → Taken n t → Taken (suc n) t
    skip n t m q r = (
      r.0,
      λ i k o. ⊎_elim (λ (x : i ≡ n). absurd (both_ways (test (line s.figures.register n)) q (ap (λ y. test (line s.figures.register y)) (sym x) ∙ o)))
          (λ (x : i ≡ n → ⊥). r.1 i (omega arith) o) (cases_eq i n),
    )

-- After noon no line due by today has a difference; nor after two, if none had one before.
noon_settles : (rank : Before) (s : State) → Rested s → is_morning s.figures.clock.phase ≡ true
    → (j : ℕ) → j < s.figures.register.count → (key s.figures.register j).due ≤ today s.figures
    → (line (performed s (acts rank s Noon)).figures.register j).difference ≡ pos 0
noon_settles rank s r m j l d =
    let h = r.works.shape in
    ⊎_elim
    (λ (e : (key s.figures.register j).due ≡ today s.figures).
    let t = performed s (differences s) in
    let u = run_phases t (steps rank (marks ∷ [])) (steps_acts rank marks run_marks) t (run_starts t (shape_performed s (differences s) h)) in
    ap (λ (x : State). (line x.figures.register j).difference) (performed_append s (differences s) (in_phases (steps rank (marks ∷ [])) t))
    ∙ u.untouched.none j (settled_today s h j l e))
    (λ (e : (key s.figures.register j).due ≡ today s.figures → ⊥).
    (noon_runs rank s h).untouched.none j
    (r.settled j l (let q = cond-true (is_morning s.figures.clock.phase) (today s.figures - 1) (today s.figures) m in let p = h.some_day in omega arith)))
    (cases_eq (key s.figures.register j).due (today s.figures))

two_settles : (rank : Before) (s : State) → Rested s → is_late s.figures.clock.phase ≡ true
    → (j : ℕ) → j < s.figures.register.count → (key s.figures.register j).due ≤ today s.figures
    → (line (performed s (acts rank s Two)).figures.register j).difference ≡ pos 0
two_settles rank s r m j l d =
    (two_runs rank s r.works.shape).untouched.none j
    (r.settled j l (let q = not_morning s.figures.clock.phase m in omega arith))
  where
    not_morning : (p : Phase) → is_late p ≡ true → cond (is_morning p) (today s.figures - 1) (today s.figures) ≡ today s.figures
    not_morning Morning e = absurd (both_ways false refl e)
    not_morning Late e = refl
    not_morning Shut e = refl

-- A phase and closing prices do not matter to what holds within a run.
works_with : (s : State) (p : Phase) (cs : List ℕ) → length cs ≡ 17 → Working s
    → Working (with_figures s (with_closes (with_clock s.figures (record { day = today s.figures; phase = p })) cs))
works_with s p cs l w = let q = w.shape in record {
  shape = record {
    some_member = q.some_member;
    few_members = q.few_members;
    some_security = q.some_security;
    few_securities = q.few_securities;
    some_day = q.some_day;
    last = q.last;
    few_lines = q.few_lines;
    places = q.places;
    records = q.records;
    rows = q.rows;
    cells = q.cells;
    closes = l;
  };
  lines = record {
    known = λ i m. known_like s.figures _ (line s.figures.register i) (line s.figures.register i) refl (omega arith) refl (w.lines.known i m);
    differ = w.lines.differ;
    one_price = w.lines.one_price;
  };
  accounts = w.accounts;
  assets = w.assets;
  small = w.small;
  escrowed = w.escrowed;
  pooled = w.pooled;
  covered = w.covered;
  balanced = w.balanced;
}

-- A run that works, leaves nothing in hand and no difference due by today, leads from rest to rest.
module _ (s t : State) (r : Rested s) (w : Working t) (over : (d u : ℕ) → in_hand t.figures.register d u ≡ 0) (run : RunFrom s t)
    (taken' : (j : ℕ) → j < s.figures.register.count → (key s.figures.register j).due ≤ today s.figures → (line t.figures.register j).difference ≡ pos 0)
    (p : Phase) (no_morning : is_morning p ≡ false) where
  same_key : (j : ℕ) → key t.figures.register j ≡ key s.figures.register j
  same_key j = ap (λ (c : Claim). c.key) (run.later.claim j)

  same_day : today t.figures ≡ today s.figures
  same_day = ap (λ (c : Clock). c.day) run.later.clock

  in_old : (j : ℕ) → j < t.figures.register.count → j < s.figures.register.count
  in_old j l = let c = run.later.count in omega arith

  -- A sum over a due day and security, of which each term is known.
  sum_run : (z : Line → ℤ) (v : ℕ → ℤ) (d u : ℕ)
      → ((j : ℕ) → j < s.figures.register.count → in_group d u (line s.figures.register j) ≡ true → z (line t.figures.register j) ≡ v j)
      → sum_z_if (in_group d u) z t.figures.register ≡ sum_z s.figures.register.count (λ j. cond (in_group d u (line s.figures.register j)) (v j) (pos 0))
  sum_run z v d u h =
      ap (λ n. sum_z n (λ j. part_z (in_group d u) z (line t.figures.register j))) run.later.count
      ∙ sum_z_same s.figures.register.count _ _ (λ j l.
      ap (λ (k : Key). cond (eqb k.due d && eqb k.security u) (z (line t.figures.register j)) (pos 0)) (same_key j)
      ∙ same_if (in_group d u (line s.figures.register j)) (z (line t.figures.register j)) (v j) (h j l))

  of_due : (d u j : ℕ) → in_group d u (line s.figures.register j) ≡ true → (key s.figures.register j).due ≡ d
  of_due d u j g = eqb-true (key s.figures.register j).due d (and_parts (eqb (key s.figures.register j).due d) (eqb (key s.figures.register j).security u) g).0

  level_run : (d u : ℕ) → sum_z_if (in_group d u) (λ l. l.difference) t.figures.register ≡ pos 0
  level_run d u =
      ⊎_elim
      (λ (m : today s.figures < d).
      sum_run (λ l. l.difference) (λ j. (line s.figures.register j).difference) d u
      (λ j l g. run.untouched.difference j (λ q. let e = of_due d u j g in omega arith))
      ∙ r.level d u)
      (λ (m : d ≤ today s.figures).
      sum_run (λ l. l.difference) (λ j. pos 0) d u (λ j l g. taken' j l (let e = of_due d u j g in omega arith))
      ∙ sum_z_zero s.figures.register.count _ (λ j l. none_if (in_group d u (line s.figures.register j)) (pos 0) refl))
      (cases_lt (today s.figures) d)

  due_before : (j : ℕ) → (key t.figures.register j).due ≡ (key s.figures.register j).due
  due_before j = ap (λ (k : Key). k.due) (same_key j)

  rested_run : Rested (in_phase t p)
  rested_run = record {
    works = works_with t p t.figures.closes w.shape.closes w;
    none_in_hand = over;
    level = level_run;
    fresh = λ u.
        ap (λ n. sum_z_if (in_group (due_day n) u) (λ l. l.money) t.figures.register) same_day
        ∙ (sum_run (λ l. l.money) (λ j. (line s.figures.register j).money) (due_day (today s.figures)) u (λ j l g. run.later.money j) ∙ r.fresh u);
    whole = λ j l m.
        let a = due_before j in let b = same_day in
        run.untouched.rest j (omega arith) ∙ (r.whole j (in_old j l) (omega arith) ∙ ap (λ (c : Claim). nat_abs c.quantity) (sym (run.later.claim j)));
    unpriced = λ j l m.
        let a = due_before j in let b = same_day in
        let q = r.unpriced j (in_old j l) (omega arith) in
        (run.later.price j ∙ q.0, run.untouched.difference j (λ e. omega arith) ∙ q.1);
    settled = λ j l m.
        let a = due_before j in let b = same_day in
        let c = cond-false (is_morning p) (today t.figures - 1) (today t.figures) no_morning in
        taken' j (in_old j l) (omega arith);
    within = λ j l.
        let a = run.later.rest j in
        let b = r.within j (in_old j l) in
        let c : nat_abs (line t.figures.register j).claim.quantity ≡ nat_abs (line s.figures.register j).claim.quantity = ap (λ (x : Claim). nat_abs x.quantity) (run.later.claim j) in
        omega arith;
  }

-- Noon and two, once it is known that they work and leave nothing in hand.
pub rested_noon : (rank : Before) → ((s : State) → Working s → Working (performed s (acts rank s Noon)))
    → ((s : State) → Rested s → (d t : ℕ) → in_hand (performed s (acts rank s Noon)).figures.register d t ≡ 0)
    → (s : State) → is_morning s.figures.clock.phase ≡ true → Rested s → Rested (effect rank s Noon)
rested_noon rank works exhausts s m r =
    rested_run s (performed s (acts rank s Noon)) r (works s r.works) (exhausts s r) (noon_runs rank s r.works.shape) (noon_settles rank s r m) Late refl

pub rested_two : (rank : Before) → ((s : State) → Working s → Working (performed s (acts rank s Two)))
    → ((s : State) → Rested s → (d t : ℕ) → in_hand (performed s (acts rank s Two)).figures.register d t ≡ 0)
    → (s : State) → is_late s.figures.clock.phase ≡ true → Rested s → Rested (effect rank s Two)
rested_two rank works exhausts s m r =
    rested_run s (performed s (acts rank s Two)) r (works s r.works) (exhausts s r) (two_runs rank s r.works.shape) (two_settles rank s r m) Shut refl

-- A closing price.
pub rested_price : (s : State) (t n : ℕ) → Rested s → Rested (with_figures s (put_close s.figures t n))
rested_price s t n r = record {
  works = works_with s s.figures.clock.phase (set s.figures.closes t n) (length-set s.figures.closes t n ∙ r.works.shape.closes) r.works;
  none_in_hand = r.none_in_hand;
  level = r.level;
  fresh = r.fresh;
  whole = r.whole;
  unpriced = r.unpriced;
  settled = r.settled;
  within = r.within;
}

-- What is known of the runs of a house by themselves.
pub record RunLaws (rank : Before) : Type 0 where
  pub noon_works : (s : State) → Working s → Working (performed s (acts rank s Noon))
  pub two_works : (s : State) → Working s → Working (performed s (acts rank s Two))
  pub noon_exhausts : (s : State) → Rested s → (d t : ℕ) → in_hand (performed s (acts rank s Noon)).figures.register d t ≡ 0
  pub two_exhausts : (s : State) → Rested s → (d t : ℕ) → in_hand (performed s (acts rank s Two)).figures.register d t ≡ 0
  pub noon_in_order : (s : State) → Rested s → (x : Entry) → x.event ≡ Noon → InOrder rank s x
  pub two_in_order : (s : State) → Rested s → (x : Entry) → x.event ≡ Two → InOrder rank s x
  pub noon_taken : (s : State) → Working s → Along PostingTaken s (acts rank s Noon)
  pub two_taken : (s : State) → Working s → Along PostingTaken s (acts rank s Two)
  pub noon_few : (s : State) → Shape s.figures → moves s (acts rank s Noon) ≤ run_space s.figures
  pub two_few : (s : State) → Shape s.figures → moves s (acts rank s Two) ≤ run_space s.figures

-- A cash settlement that is not too early is of an earlier due day.
past_due : (day due : ℕ) (risk : Bool) → ltb day (cash_day due risk) ≡ false → due < day
past_due day due true e = let l = ltb-false day (due + 1) e in omega arith
past_due day due false e = let l = ltb-false day (due + 3) e in omega arith

module _ (rank : Before) (runs : RunLaws rank) where
  rested_effect : (s : State) (space : ℕ) (e : Event) → is_accepted (answer s e space) ≡ true → Rested s → Rested (effect rank s e)
  rested_effect s space (Bring m t n) a h = rested_asked s space (Bring m t n) a h
  rested_effect s space (Take m t n) a h = rested_asked s space (Take m t n) a h
  rested_effect s space (Endow n) a h = rested_asked s space (Endow n) a h
  rested_effect s space (Pledge m n) a h = rested_asked s space (Pledge m n) a h
  rested_effect s space (Refund m n) a h = rested_asked s space (Refund m n) a h
  rested_effect s space (Contribute m n) a h = rested_asked s space (Contribute m n) a h
  rested_effect s space (Novate t) a h =
      let q = none_applied (event_refusals s (Novate t) space) a in
      rested_traded s t (good_trade s.figures t q.0 q.1.0 q.1.1.1.1.0) h
  rested_effect s space (Price t p) a h = rested_price s t p h
  rested_effect s space Noon a h =
      let q = none_applied (event_refusals s Noon space) a in
      rested_noon rank runs.noon_works runs.noon_exhausts s (not-false (is_morning s.figures.clock.phase) q.0) h
  rested_effect s space Two a h =
      let q = none_applied (event_refusals s Two space) a in
      rested_two rank runs.two_works runs.two_exhausts s (not-false (is_late s.figures.clock.phase) q.0) h
  rested_effect s space End a h =
      let q = none_applied (event_refusals s End space) a in
      rested_end s (not-false (is_shut s.figures.clock.phase) q.0) (leb-false last_day (today s.figures) q.1.0) h
  rested_effect s space (BuyIn due t) a h =
      let q = none_applied (event_refusals s (BuyIn due t) space) a in
      rested_traded s t (good_trade s.figures t q.0 q.1.0 q.1.1.1.1.1.1.0) h
  rested_effect s space (SellOut t) a h =
      let q = none_applied (event_refusals s (SellOut t) space) a in
      rested_traded s t (good_trade s.figures t q.0 q.1.0 q.1.1.1.1.1.1.0) h
  rested_effect s space (CashSettle due t highest risk) a h =
      let q = none_applied (event_refusals s (CashSettle due t highest risk) space) a in
      rested_cash s due t highest (past_due (today s.figures) due risk q.1.1.0) h

  pub rested_next : (s : State) (x : Entry) → Rested s → Rested (next rank s x)
  rested_next s x h = go (taken s x) refl
    where
      go : (b : Bool) → taken s x ≡ b → Rested (cond b (effect rank s x.event) s)
      go true e = rested_effect s x.space x.event e h
      go false e = h

  pub rested_lived : (s : State) (xs : List Entry) → Rested s → Rested (lived rank s xs)
  rested_lived s [] h = h
  rested_lived s (x ∷ xs) h = rested_lived (next rank s x) xs (rested_next s x h)

  pub totals : (s : State) (xs : List Entry) → Rested s → (t : ℕ)
      → total_of (lived rank s xs) t + all_taken taken_out rank s xs t ≡ total_of s t + all_taken put_in rank s xs t
  totals s [] h t = refl
  totals s (x ∷ xs) h t =
      chain _ _ _ _ _ _ _ (totals (next rank s x) xs (rested_next s x h) t) (total_next rank s x h.works t)
    where
      chain : (A B C a b c d : ℕ) → A + b ≡ B + d → B + a ≡ C + c → A + (a + b) ≡ C + (c + d)
      chain A B C a b c d p q = omega arith

  throughout : (P : State → Entry → Type 0) → ((s : State) (x : Entry) → taken s x ≡ true → Rested s → P s x) → (s : State) (xs : List Entry) → Rested s → Throughout rank P s xs
  throughout P f s [] h = tt
  throughout P f s (x ∷ xs) h = ((λ e. f s x e h), throughout P f (next rank s x) xs (rested_next s x h))

  -- Of the acts of each event.
  in_order : (s : State) (e : Event) → Rested s → Along (λ g a. FairAct rank g g a × FairAct rank (effect rank s e) g a) s (acts rank s e)
  in_order s (Bring m t n) r = tt
  in_order s (Take m t n) r = tt
  in_order s (Endow n) r = tt
  in_order s (Pledge m n) r = tt
  in_order s (Refund m n) r = tt
  in_order s (Contribute m n) r = tt
  in_order s (Novate t) r = tt
  in_order s (Price t p) r = tt
  in_order s Noon r = runs.noon_in_order s r (record { event = Noon; space = 0 }) refl
  in_order s Two r = runs.two_in_order s r (record { event = Two; space = 0 }) refl
  in_order s End r = tt
  in_order s (BuyIn due t) r = tt
  in_order s (SellOut t) r = tt
  in_order s (CashSettle due t highest risk) r = tt

  acts_taken : (s : State) (e : Event) → Working s → Along PostingTaken s (acts rank s e)
  acts_taken s (Bring m t n) w = tt
  acts_taken s (Take m t n) w = tt
  acts_taken s (Endow n) w = tt
  acts_taken s (Pledge m n) w = tt
  acts_taken s (Refund m n) w = tt
  acts_taken s (Contribute m n) w = tt
  acts_taken s (Novate t) w = tt
  acts_taken s (Price t p) w = tt
  acts_taken s Noon w = runs.noon_taken s w
  acts_taken s Two w = runs.two_taken s w
  acts_taken s End w = tt
  acts_taken s (BuyIn due t) w = tt
  acts_taken s (SellOut t) w = tt
  acts_taken s (CashSettle due t highest risk) w = tt

  few_moves : (s : State) (e : Event) → Shape s.figures → moves s (acts rank s e) ≤ run_space s.figures
  few_moves s (Bring m t n) h = omega arith
  few_moves s (Take m t n) h = omega arith
  few_moves s (Endow n) h = omega arith
  few_moves s (Pledge m n) h = omega arith
  few_moves s (Refund m n) h = omega arith
  few_moves s (Contribute m n) h = omega arith
  few_moves s (Novate t) h = omega arith
  few_moves s (Price t p) h = omega arith
  few_moves s Noon h = runs.noon_few s h
  few_moves s Two h = runs.two_few s h
  few_moves s End h = omega arith
  few_moves s (BuyIn due t) h = omega arith
  few_moves s (SellOut t) h = omega arith
  few_moves s (CashSettle due t highest risk) h = omega arith

  pub laws_rested : (s : State) (xs : List Entry) → ((t : ℕ) → total_of s t ≡ 0) → Rested s → Laws rank s xs
  laws_rested s xs none h = record {
    totals = λ t. let a = totals s xs h t in let b = none t in omega arith;
    matched = matched_rested (lived rank s xs) (rested_lived s xs h);
    in_order = throughout (InOrder rank) (λ u x e i. in_order u x.event i) s xs h;
    all_taken = throughout (AllTaken rank) (λ u x e i. record {
      asked_taken = asked_taken u x.space x.event i.works e;
      acts_taken = acts_taken u x.event i.works;
    }) s xs h;
    few_moves = throughout (FewMoves rank) (λ u x e i. few_moves u x.event i.works.shape) s xs h;
  }

pub settlement_laws : ((rank : Before) → ((p : ℕ) → Lawful (rank p)) → RunLaws rank) → SettlementLaws
settlement_laws runs rank law m s m₀ m₁ s₀ s₁ xs =
    laws_rested rank (runs rank law) (opened m s) xs (λ t. sum_zero (3 * m + 3) (λ a. 0) (λ a. refl))
    (rested_opened m s m₀ m₁ s₀ s₁)
