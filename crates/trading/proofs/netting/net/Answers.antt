use Rattle.std.proofs.Common.{sym, ap, subst}
use Rattle.rules.specs.declared.figures.Figures.{Figures}
use Rattle.rules.specs.Fit.{Fit}
use Rattle.trading.proofs.Trades.{lines_sized, room_found, room_today, fit_netted, traded_today}
use Rattle.trading.proofs.netting.net.Goals as goal

pub net-requires : goal.net-requires
net-requires c = record {
  lines = lines_sized _ c.f.invariant;
  room = room_today c.args.f.now c.args.judged.trade _ _ _ (ap (λ (f : Figures). f.register) c.f.view_is) c.deal_today-deal.ensures.due c.deal_today-deal.ensures.trade
      (room_found c.args.f.now c.args.judged.trade c.requires.netting);
}

pub returns : goal.returns
returns c =
    traded_today _ c.args.f.now c.args.judged.trade _ _ _ c.f.view_is c.deal_today-deal.ensures.due c.deal_today-deal.ensures.trade c.net.ensures

pub invariant_of-f : goal.invariant_of-f
invariant_of-f c =
    subst Fit
    (sym (traded_today _ c.args.f.now c.args.judged.trade _ _ _ c.f.view_is c.deal_today-deal.ensures.due c.deal_today-deal.ensures.trade c.net.ensures))
    (fit_netted c.args.f.now c.args.judged.trade c.requires.trade c.requires.netting (subst Fit c.f.view_is c.f.invariant))
