use Rattle.std.proofs.Common.{sym, subst}
use Rattle.register.specs.Fits.{Sized}
use Rattle.register.proofs.Trades.{sized_bought}
use Rattle.register.proofs.line.Line.crossed.Goals as goal

pub traded-requires-2 : goal.traded-requires-2
traded-requires-2 c =
    let d = c.args.deal in
    subst (Sized 2) (sym c.traded.ensures) (sized_bought c.args.self d.trade.quantity d.trade.price c.requires d.quantity d.price)
