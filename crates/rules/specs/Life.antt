-- A life of a house: events one after the other from its opening, and what holds of every life.
use Rattle.std.specs.Prelude.{◌≡◌, ℕ, suc, ◌+◌, ◌<◌, ◌≤◌, Bool, true, false, cond, ◌&&◌, List, [], ◌∷◌, pos, ◌+ℤ◌, nat_lt}
use Rattle.book.specs.Ledger.{Ledger, Sound}
use Rattle.book.specs.Movement.{Movement, Move, movement_number}
use Rattle.book.specs.Laws.{put_in, taken_out}
use Rattle.rank.specs.Laws.{Lawful}
use Rattle.rules.specs.declared.event.Event.{Event}
use Rattle.rules.specs.Limits.{most_members, most_securities}
use Rattle.rules.specs.Faults.{is_accepted}
use Rattle.rules.specs.State.{State, total_of, pool, cash, position, owes, opened}
use Rattle.register.specs.Lines.{line, receives, in_group, to_deliver, to_receive, sum_z}
use Rattle.rules.specs.Run.{Before, Act, settle, give, give_escrow, serve, pay, pay_out, repay, pay_charges, pass, mark_line, mark, charge, compensate, close_line, require, amount, from_account, to_account, moved_asset, Along}
use Rattle.rules.specs.Events.{answer, acts, asked, effect, run_space}

-- An event, and the space that the book shows when it comes.
pub record Entry : Type 0 where
  pub event : Event
  pub space : ℕ

abbrev pub taken : State → Entry → Bool
taken s x = is_accepted (answer s x.event x.space)

-- A refused event alters nothing.
abbrev pub next : Before → State → Entry → State
next rank s x = cond (taken s x) (effect rank s x.event) s

abbrev pub lived : Before → State → List Entry → State
lived rank s [] = s
lived rank s (x ∷ xs) = lived rank (next rank s x) xs

-- What an event asks to be put in from outside of an asset, or taken out.
abbrev pub asked_sum : (Movement → ℕ → ℕ) → List Movement → ℕ → ℕ
asked_sum of [] t = 0
asked_sum of (m ∷ ms) t = of m t + asked_sum of ms t

-- The same of all accepted events of a life.
abbrev pub all_taken : (Movement → ℕ → ℕ) → Before → State → List Entry → ℕ → ℕ
all_taken of rank s [] t = 0
all_taken of rank s (x ∷ xs) t =
    cond (taken s x) (asked_sum of (asked x.event) t) 0 + all_taken of rank (next rank s x) xs t

-- Each asset's sum over all accounts is what accepted brings and endows put in, less accepted takes.
abbrev pub Totals : Before → State → List Entry → Type 0
Totals rank s xs = (t : ℕ) → total_of (lived rank s xs) t + all_taken taken_out rank s xs t ≡ all_taken put_in rank s xs t

-- Shares to deliver equal shares to receive for every due day and security; all positions and the pool's cash add to 0.
pub record Matched (s : State) : Type 0 where
  pub shares : (d t : ℕ) → to_deliver s.figures.register d t ≡ to_receive s.figures.register d t
  pub money : sum_z (suc s.figures.size.members) (position s.figures) +ℤ pos (s.held pool cash) ≡ pos 0

-- Line j goes before line i, which is of the same side, due day and security.
abbrev pub ahead : Before → State → ℕ → ℕ → Bool
ahead rank s j i =
    let l = line s.figures.register i in
    let k = line s.figures.register j in
    receives k && (in_group l.claim.key.due l.claim.key.security k && rank l.price k.claim l.claim)

-- What is asked of an act that finds the state s, seen in the state g: a member that is passed shares owes nothing;
-- when a line is served, every receiving line of its due day and security that goes before it has rest 0.
abbrev pub FairAct : Before → State → State → Act → Type 0
FairAct rank g s (settle i) = Unit {0}
FairAct rank g s (give i) = Unit {0}
FairAct rank g s (give_escrow i) = Unit {0}
FairAct rank g s (serve i) =
    0 < amount s (serve i) → (j : ℕ) → j < g.figures.register.count → ahead rank g j i ≡ true → (line g.figures.register j).rest ≡ 0
FairAct rank g s (pay m from) = Unit {0}
FairAct rank g s (pay_out m n) = Unit {0}
FairAct rank g s (repay m) = Unit {0}
FairAct rank g s (pay_charges m) = Unit {0}
FairAct rank g s (pass m t) = 0 < amount s (pass m t) → owes g.figures m ≡ false
FairAct rank g s (mark_line i) = Unit {0}
FairAct rank g s (mark m) = Unit {0}
FairAct rank g s (charge m) = Unit {0}
FairAct rank g s (compensate i c) = Unit {0}
FairAct rank g s (close_line i) = Unit {0}
FairAct rank g s (require m) = Unit {0}

-- Of every act of an event, in the state that the act finds and again in the state in which the event ends.
abbrev pub InOrder : Before → State → Entry → Type 0
InOrder rank s x =
    Along (λ g a. FairAct rank g g a × FairAct rank (effect rank s x.event) g a) s (acts rank s x.event)

-- A book that shows the balances of a state, and a space.
pub record Shows (b : Ledger) (s : State) : Type 0 where
  pub accounts : b.accounts ≡ s.accounts
  pub assets : b.assets ≡ s.assets
  pub held : b.held ≡ s.held

-- A sound book that shows the state takes the act's posting, where it has space.
abbrev pub PostingTaken : State → Act → Type 0
PostingTaken s a =
    0 < amount s a → (b : Ledger) → Sound b → Shows b s → 0 < b.space →
    movement_number b (Move (from_account s.figures a) (to_account s.figures a) (moved_asset s.figures a) (amount s a)) ≡ 0

-- It takes what an event asks of it, where it shows the entry's space.
abbrev pub AskedTaken : State → ℕ → List Movement → Type 0
AskedTaken s space [] = Unit {0}
AskedTaken s space (m ∷ ms) =
    ((b : Ledger) → Sound b → Shows b s → b.space ≡ space → movement_number b m ≡ 0) × AskedTaken s space ms

-- No posting of an event is refused by a sound book.
pub record AllTaken (rank : Before) (s : State) (x : Entry) : Type 0 where
  pub asked_taken : AskedTaken s x.space (asked x.event)
  pub acts_taken : Along PostingTaken s (acts rank s x.event)

-- The number of movements that acts make.
abbrev pub moves : State → List Act → ℕ
moves s [] = 0
moves s (a ∷ more) = cond (nat_lt 0 (amount s a)) 1 0 + moves (Rattle.rules.specs.Run.after_act s a) more

-- A run makes no more movements than the space that it asked for.
abbrev pub FewMoves : Before → State → Entry → Type 0
FewMoves rank s x = moves s (acts rank s x.event) ≤ run_space s.figures

-- Something holds of each accepted event of a life, in the state that it finds.
abbrev pub Throughout : Before → (State → Entry → Type 0) → State → List Entry → Type 0
Throughout rank P s [] = Unit {0}
Throughout rank P s (x ∷ xs) = (taken s x ≡ true → P s x) × Throughout rank P (next rank s x) xs

-- The laws of settlement, of one life from a state.
pub record Laws (rank : Before) (s : State) (xs : List Entry) : Type 0 where
  pub totals : Totals rank s xs
  pub matched : Matched (lived rank s xs)
  pub in_order : Throughout rank (InOrder rank) s xs
  pub all_taken : Throughout rank (AllTaken rank) s xs
  pub few_moves : Throughout rank (FewMoves rank) s xs

-- They hold of every list of entries from the opening of any house, whatever its lawful rank.
abbrev pub SettlementLaws : Type 0
SettlementLaws =
    (rank : Before) → ((p : ℕ) → Lawful (rank p)) → (m s : ℕ) → 0 < m → m ≤ most_members → 0 < s → s ≤ most_securities →
    (xs : List Entry) → Laws rank (opened m s) xs
