use Rattle.std.proofs.Common.{ap, ◌∙◌}
use Rattle.register.specs.declared.Register.{Register}
use Rattle.register.specs.declared.trade.Trade.{Trade}
use Rattle.register.specs.Netting.{due_day, trade_too_large}
use Rattle.rules.specs.declared.figures.Figures.{Figures}
use Rattle.rules.specs.State.{today}
use Rattle.trading.proofs.Trades.{lines_sized, room_today}
use Rattle.trading.proofs.judging.line_too_large.Goals as goal

pub trade_too_large-requires : goal.trade_too_large-requires
trade_too_large-requires c = record {
  lines = lines_sized _ c.f.invariant;
  room = room_today c.args.f.now c.args.judged.trade _ _ _ (ap (λ (f : Figures). f.register) c.f.view_is) c.deal_today.ensures.due c.deal_today.ensures.trade c.requires;
}

pub returns : goal.returns
returns c =
    let g = c.args.f.now.register in
    c.trade_too_large.ensures
    ∙ (ap (λ (h : Register). trade_too_large h c.deal_today.result.due c.deal_today.result.trade) (ap (λ (f : Figures). f.register) c.f.view_is)
    ∙ (ap (λ d. trade_too_large g d c.deal_today.result.trade) c.deal_today.ensures.due
    ∙ ap (λ (t : Trade). trade_too_large g (due_day (today c.args.f.now)) t) c.deal_today.ensures.trade))
