-- What holds of a house and its book in every life: within a run (`Working`) and between events (`Rested`).
use Rattle.std.proofs.Common.{◌≡◌, ℕ, suc, ◌+◌, ◌-◌, ◌*◌, ◌<◌, ◌≤◌, cond, ℤ, pos, ◌+ℤ◌, ◌*ℤ◌, nat_abs}
use Rattle.book.specs.Ledger.{sum_to, most_amount}
use Rattle.register.specs.declared.line.Line.{Line}
use Rattle.rules.specs.declared.figures.Figures.{Figures}
use Rattle.rules.specs.Limits.{last_day}
use Rattle.rules.specs.State.{State, pool, escrow, cash, position, in_escrow, today}
use Rattle.register.specs.Lines.{line, key, in_group, signed_rest, sum_z, sum_z_if, to_deliver, to_receive, in_hand}
use Rattle.register.specs.Netting.{due_day}
use Rattle.rules.specs.Events.{is_morning}
use Rattle.rules.specs.Fit.{Shape, Known}

-- The lines of the register: each is of the house, keys differ, and lines of one due day and security have one settlement price.
pub record SoundLines (f : Figures) : Type 0 where
  pub known : (i : ℕ) → i < f.register.count → Known f (line f.register i)
  pub differ : (i j : ℕ) → i < f.register.count → j < f.register.count → key f.register i ≡ key f.register j → i ≡ j
  pub one_price : (i j : ℕ) → i < f.register.count → j < f.register.count
      → (key f.register i).due ≡ (key f.register j).due → (key f.register i).security ≡ (key f.register j).security
      → (line f.register i).price ≡ (line f.register j).price

-- What a line will still bring its member's position to pay, at its settlement price.
abbrev pub worth : Line → ℤ
worth l = l.difference +ℤ signed_rest l *ℤ pos l.price

abbrev pub all_worth : Figures → ℤ
all_worth f = sum_z f.register.count (λ i. worth (line f.register i))

-- More days than any line falls due on.
unfoldable pub days : ℕ
days = suc (due_day last_day)

-- Within a run.
pub record Working (s : State) : Type 0 where
  pub shape : Shape s.figures
  pub lines : SoundLines s.figures
  pub accounts : s.accounts ≡ 3 * s.figures.size.members + 3
  pub assets : s.assets ≡ s.figures.size.securities + 1
  pub small : (t : ℕ) → sum_to s.accounts (λ a. s.held a t) ≤ most_amount
  -- Escrow holds just what it holds in members' names, the pool just what it has in hand.
  pub escrowed : (t : ℕ) → 0 < t → sum_to (suc s.figures.size.members) (λ m. in_escrow s.figures m t) ≡ s.held escrow t
  pub pooled : (t : ℕ) → 0 < t → sum_to days (λ d. in_hand s.figures.register d t) ≡ s.held pool t
  pub covered : (d t : ℕ) → to_deliver s.figures.register d t ≤ to_receive s.figures.register d t
  -- Positions and the pool's cash make up what is still open.
  pub balanced : sum_z (suc s.figures.size.members) (position s.figures) +ℤ pos (s.held pool cash) ≡ all_worth s.figures

-- The last day whose differences noon has taken.
abbrev pub settled_day : Figures → ℕ
settled_day f = cond (is_morning f.clock.phase) (today f - 1) (today f)

-- Between events.
pub record Rested (s : State) : Type 0 where
  pub works : Working s
  pub none_in_hand : (d t : ℕ) → in_hand s.figures.register d t ≡ 0
  -- Differences of a due day and security add to 0, and so does the money of today's trades.
  pub level : (d t : ℕ) → sum_z_if (in_group d t) (λ l. l.difference) s.figures.register ≡ pos 0
  pub fresh : (t : ℕ) → sum_z_if (in_group (due_day (today s.figures)) t) (λ l. l.money) s.figures.register ≡ pos 0
  -- Lines not yet due are whole; today's have no settlement price; a taken difference is 0.
  pub whole : (i : ℕ) → i < s.figures.register.count → today s.figures < (key s.figures.register i).due
      → (line s.figures.register i).rest ≡ nat_abs (line s.figures.register i).claim.quantity
  pub unpriced : (i : ℕ) → i < s.figures.register.count → (key s.figures.register i).due ≡ due_day (today s.figures)
      → ((line s.figures.register i).price ≡ 0) × ((line s.figures.register i).difference ≡ pos 0)
  pub settled : (i : ℕ) → i < s.figures.register.count → (key s.figures.register i).due ≤ settled_day s.figures
      → (line s.figures.register i).difference ≡ pos 0
  -- No line has more left than its netted quantity.
  pub within : (i : ℕ) → i < s.figures.register.count → (line s.figures.register i).rest ≤ nat_abs (line s.figures.register i).claim.quantity
