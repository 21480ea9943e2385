use Rattle.rules.specs.declared.event.Event.TheVariants.{Novate}
use Rattle.house.proofs.Kept.{fit_kept}
use Rattle.house.proofs.Novated.{novated_told}
use Rattle.house.proofs.house.House.novate.Goals as goal

pub invariant_of-self-inside-2 : goal.invariant_of-self-inside-2
invariant_of-self-inside-2 g c =
    let h = c.self.inside in (
      fit_kept (g.R.Rank.goes h.rank) h.state c.in-Ok.figures _ (g.B.Book.ledger h.book) (Novate c.args.trade) _ h.fit c.in-Ok.is
          c.novate.ensures.answer c.novate.ensures.figures,
      tt,
    )

pub returns : goal.returns
returns g c =
    let h = c.self.inside in
    novated_told g.B.Book.good g.B.Book.ledger g.R.Rank.goes c.args.self.now h.book h.rank h.state h.fit c.in-Ok.figures _ _ c.args.trade _
    c.self.view_is c.in-Ok.is c.novate.ensures.answer c.novate.ensures.figures
