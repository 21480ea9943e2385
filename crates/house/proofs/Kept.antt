-- The figures of a house fit their bounds after an event, too.
use Rattle.std.proofs.Common.{◌≡◌, cond, Ok, Result, subst}
use Rattle.book.specs.Ledger.{Ledger}
use Rattle.rules.specs.declared.event.Event.{Event}
use Rattle.rules.specs.declared.fault.HouseFault.{HouseFault}
use Rattle.rules.specs.declared.figures.Figures.{Figures}
use Rattle.rules.specs.Events.{answer, effect}
use Rattle.rules.specs.Faults.{Answer, is_accepted}
use Rattle.rules.specs.Fit.{Fit}
use Rattle.rules.specs.Run.{Before}
use Rattle.rules.proofs.Fits.{fit_left}
use Rattle.desk.specs.Passed.{state_of}
use Rattle.house.specs.Seen.{figures_in}

-- What an event, accepted or not, leaves of the figures of a house that was opened.
pub fit_kept : (rank : Before) (o : Result Figures HouseFault) (f f' : Figures) (b : Ledger) (e : Event) (w : Answer) → Fit (figures_in o) → o ≡ Ok f
    → w ≡ answer (state_of f b) e b.space → f' ≡ cond (is_accepted w) (effect rank (state_of f b) e).figures f → Fit f'
fit_kept rank o f f' b e w fit stood is left =
    fit_left rank (state_of f b) (record { event = e; space = b.space }) w f' is left (subst (λ o. Fit (figures_in o)) stood fit)
