-- How a house passes a movement on to its book.
use Rattle.std.specs.Prelude.{◌≡◌, ℕ, ◌+◌, ◌≤◌, cond, ◌==◌}
use Rattle.book.specs.Ledger.{Ledger}
use Rattle.book.specs.Movement.{Movement, after, movement_number}
use Rattle.rules.specs.declared.figures.Figures.{Figures}
use Rattle.rules.specs.State.{State}
use Rattle.rules.specs.Faults.{Answer, accepted, refused, book_layer, is_accepted}

-- The state of a house: its figures, and what its book means but for the space.
abbrev pub state_of : Figures → Ledger → State
state_of f b = record { figures = f; accounts = b.accounts; assets = b.assets; held = b.held }

-- What the house answers where the book answers a number.
abbrev pub booked : ℕ → Answer
booked n = cond (n == 0) accepted (refused book_layer n)

-- What the house answers by itself, and else what the book does.
abbrev pub then_booked : Answer → ℕ → Answer
then_booked accepted n = booked n
then_booked (refused l k) n = refused l k

-- A movement m that the house judges by itself first, and then asks of a book b: it answers w and leaves the book b'.
pub record Passed (judged : Answer) (m : Movement) (b : Ledger) (w : Answer) (b' : Ledger) : Type 0 where
  pub answer : w ≡ then_booked judged (movement_number b m)
  pub accounts : b'.accounts ≡ b.accounts
  pub assets : b'.assets ≡ b.assets
  pub held : b'.held ≡ cond (is_accepted w) (after b.held m) b.held
  pub no_more_space : b'.space ≤ b.space
  pub spent : b.space ≤ b'.space + cond (is_accepted w) 1 0
