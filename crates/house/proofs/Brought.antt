-- An amount that was brought, or refused, as an event of the house.
use Rattle.std.proofs.Common.{ℕ, arith}
use Rattle.std.proofs.lemmas.Grind.{common_steps}
use Rattle.book.specs.Ledger.{Ledger}
use Rattle.book.specs.Movement.{Put}
use Rattle.rules.specs.declared.event.Event.TheVariants.{Bring}
use Rattle.rules.specs.declared.figures.Figures.{Figures}
use Rattle.rules.specs.Faults.{Answer}
use Rattle.rules.specs.Run.{Before}
use Rattle.rules.specs.State.{settlement}
use Rattle.desk.specs.Judged.{bring_judged}
use Rattle.desk.specs.Passed.{Passed}
use Rattle.house.specs.Handled.{Counted, Handled}

pub brought : (rank : Before) (f : Figures) (b b' : Ledger) (m t n : ℕ) (w : Answer) → Counted f b
    → Passed (bring_judged f m t n) (Put (settlement m) t n) b w b' → Handled rank (Bring m t n) f b w f b'
brought rank f b b' m t n w c p = grind (arith, common_steps)
