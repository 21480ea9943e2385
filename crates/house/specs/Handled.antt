-- How a house answers an event, and what it leaves.
use Rattle.std.specs.Prelude.{◌≡◌, ℕ, ◌+◌, ◌*◌, ◌≤◌, cond, Some, None, Option}
use Rattle.book.specs.Ledger.{Ledger}
use Rattle.rules.specs.declared.event.Event.{Event}
use Rattle.rules.specs.declared.event.Event.TheVariants.{Bring, Take, Endow, Pledge, Refund, Contribute, Novate, Price, Noon, Two, End, BuyIn, SellOut, CashSettle}
use Rattle.rules.specs.declared.fault.HouseFault.{HouseFault}
use Rattle.rules.specs.declared.figures.Figures.{Figures}
use Rattle.rules.specs.Faults.{Answer, refusal, is_accepted}
use Rattle.rules.specs.State.{State}
use Rattle.rules.specs.Run.{Before}
use Rattle.rules.specs.Events.{answer, effect, run_space}
use Rattle.desk.specs.Passed.{state_of}

-- The book has the accounts and the assets of the house: so it is opened, and no event changes these counts.
pub record Counted (f : Figures) (b : Ledger) : Type 0 where
  pub accounts : b.accounts ≡ 3 * f.size.members + 3
  pub assets : b.assets ≡ f.size.securities + 1

-- The most movements that an accepted event makes on the book.
abbrev pub most_moves : Figures → Event → ℕ
most_moves f (Bring m t n) = 1
most_moves f (Take m t n) = 1
most_moves f (Endow n) = 1
most_moves f (Pledge m n) = 1
most_moves f (Refund m n) = 1
most_moves f (Contribute m n) = 1
most_moves f (Novate t) = 0
most_moves f (Price t p) = 0
most_moves f Noon = run_space f
most_moves f Two = run_space f
most_moves f End = 0
most_moves f (BuyIn due t) = 0
most_moves f (SellOut t) = 0
most_moves f (CashSettle due t highest risk) = 0

-- An event that should be answered by `wanted` and leave `done` where it is accepted: the answer w is that, a refused event leaves
-- the state as it was, and what is left open of the space lies between these bounds.
pub record LeftBy (wanted : Answer) (done : State) (moves : ℕ) (f : Figures) (b : Ledger) (w : Answer) (f' : Figures) (b' : Ledger) : Type 0 where
  pub answer : w ≡ wanted
  pub state : state_of f' b' ≡ cond (is_accepted w) done (state_of f b)
  pub no_more_space : b'.space ≤ b.space
  pub spent : b.space ≤ b'.space + cond (is_accepted w) moves 0
  pub counted : Counted f' b'

-- How a house of the figures f over a book b answers w to an event, and leaves f' and b'.
abbrev pub Handled : Before → Event → Figures → Ledger → Answer → Figures → Ledger → Type 0
Handled rank e f b = LeftBy (answer (state_of f b) e b.space) (effect rank (state_of f b) e) (most_moves f e) f b

-- The same of any house: one that was refused at its opening answers every event by that refusal and alters nothing.
abbrev pub AnsweredBy : Option HouseFault → Before → Event → Figures → Ledger → Answer → Figures → Ledger → Type 0
AnsweredBy None rank e f b w f' b' = Counted f b → Handled rank e f b w f' b'
AnsweredBy (Some x) rank e f b w f' b' = (w ≡ refusal x) × (f' ≡ f) × (b' ≡ b)
