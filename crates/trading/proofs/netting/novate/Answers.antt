use Rattle.std.proofs.Common.{Err, ap, ◌∙◌}
use Rattle.std.proofs.lemmas.Result.{err_from_is_err_and}
use Rattle.register.specs.declared.trade.Trade.{Trade}
use Rattle.trading.specs.Traded.{netting_judged}
use Rattle.trading.proofs.Trades.{refused_trade, sound_trade_next}
use Rattle.trading.proofs.netting.novate.Goals as goal

pub returns-in_err-judged-clause-answer : goal.returns-in_err-judged-clause-answer
returns-in_err-judged-clause-answer c =
    let p = err_from_is_err_and c.from_residual.result c.from_residual.ensures.1 in
    (refused_trade c.args.f.now c.args.trade c.from_residual.result _ (p.1 ∙ ap Err p.2) c.in_err-judged.ensures.answer).answer

pub returns-clause-answer : goal.returns-clause-answer
returns-clause-answer c =
    c.net_judged.ensures.answer
    ∙ (ap (λ (t : Trade). netting_judged c.args.f.now t) c.in_ok-judged.ensures.trade
    ∙ sound_trade_next c.args.f.now c.args.trade c.in_ok-judged.ensures.answer)
