use Rattle.rules.specs.declared.event.Event.TheVariants.{Price}
use Rattle.house.proofs.Kept.{fit_kept}
use Rattle.house.proofs.house.House.price.Goals as goal

pub invariant_of-self-inside-2 : goal.invariant_of-self-inside-2
invariant_of-self-inside-2 g c =
    let h = c.self.inside in (
      fit_kept (g.R.Rank.goes h.rank) h.state c.in-Ok.figures _ (g.B.Book.ledger h.book) (Price c.args.security c.args.price) _ h.fit c.in-Ok.is
          c.set_close.ensures.answer c.set_close.ensures.figures,
      tt,
    )
