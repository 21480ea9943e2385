-- A house as contracts see it.
use Rattle.std.specs.Prelude.{◌≡◌, Ok, Err, Some, None, Option, Result}
use Rattle.book.specs.Ledger.{Ledger}
use Rattle.rules.specs.declared.event.Event.{Event}
use Rattle.rules.specs.declared.fault.HouseFault.{HouseFault}
use Rattle.rules.specs.declared.figures.Figures.{Figures}
use Rattle.rules.specs.Faults.{Answer}
use Rattle.rules.specs.Fit.{Fit}
use Rattle.rules.specs.Run.{Before}
use Rattle.rules.specs.State.{opened_figures}
use Rattle.house.specs.Handled.{AnsweredBy}

-- Its book and its rank, why it was refused at its opening, if it was, and its figures, which fit their bounds. Nobody reads those of
-- a refused one.
pub record Seen (B R : Type 0) : Type 0 where
  pub book : B
  pub rank : R
  pub refusal : Option HouseFault
  pub figures : Figures
  pub fit : Fit figures

abbrev pub refusal_in : Result Figures HouseFault → Option HouseFault
refusal_in (Ok f) = None
refusal_in (Err x) = Some x

abbrev pub figures_in : Result Figures HouseFault → Figures
figures_in (Ok f) = f
figures_in (Err x) = opened_figures 1 1

abbrev pub house_of : {B R : Type 0} → B → R → (s : Result Figures HouseFault) → Fit (figures_in s) → Seen B R
house_of b r s fit = record { book = b; rank = r; refusal = refusal_in s; figures = figures_in s; fit = fit }

-- How a house h over a good book is told of an event: it answers w and is h' afterwards, over a good book, with its rank and its refusal.
pub record Told {B R : Type 0} (good : B → Type 0) (ledger : B → Ledger) (goes : R → Before) (e : Event) (h : Seen B R) (w : Answer) (h' : Seen B R) : Type 0 where
  pub handled : good h.book → AnsweredBy h.refusal (goes h.rank) e h.figures (ledger h.book) w h'.figures (ledger h'.book)
  pub stays : good h.book → good h'.book
  pub rank : h'.rank ≡ h.rank
  pub refusal : h'.refusal ≡ h.refusal
