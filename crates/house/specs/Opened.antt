-- How a house is opened.
use Rattle.std.specs.Prelude.{◌≡◌, ℕ, Bool, not, ◌&&◌, Some, None, Option}
use Rattle.book.specs.Faults.{from_one_to}
use Rattle.book.specs.Ledger.{Ledger}
use Rattle.rules.specs.declared.fault.HouseFault.{HouseFault}
use Rattle.rules.specs.declared.figures.Figures.{Figures}
use Rattle.rules.specs.Faults.{Answer, accepted, refusal}
use Rattle.rules.specs.Limits.{most_members, most_securities}
use Rattle.rules.specs.State.{opened}
use Rattle.rules.specs.Events.{open_answer}
use Rattle.desk.specs.Passed.{state_of}
use Rattle.house.specs.Handled.{Counted}

-- Counts of members or securities out of range.
abbrev pub bad_counts : ℕ → ℕ → Bool
bad_counts m s = not (from_one_to most_members m && from_one_to most_securities s)

-- The answer that a refusal, or none, stands for.
abbrev pub answer_told : Option HouseFault → Answer
answer_told None = accepted
answer_told (Some x) = refusal x

-- A house that opens over a book b is in the state that every life begins in.
pub record Opened (b : Ledger) (m s : ℕ) (f : Figures) : Type 0 where
  pub state : state_of f b ≡ opened m s
  pub counted : Counted f b

-- A house of m members and s securities over a book b: it is refused as it should be, or opened.
pub record OpenedBy (b : Ledger) (m s : ℕ) (o : Option HouseFault) (f : Figures) : Type 0 where
  pub answer : answer_told o ≡ open_answer b m s
  pub opened : o ≡ None → Opened b m s f
