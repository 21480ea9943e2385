use Rattle.std.proofs.Common.{refl}
use Rattle.trading.proofs.Trades.{trade_sound}
use Rattle.trading.proofs.judging.sound_trade.Goals as goal

pub invariant_of-result : goal.invariant_of-result
invariant_of-result c = record { known = (trade_sound _ c.args.trade c.f.invariant c.in_ok-judge_trade.ensures).buyer }

pub invariant_of-result-2 : goal.invariant_of-result-2
invariant_of-result-2 c = record { known = (trade_sound _ c.args.trade c.f.invariant c.in_ok-judge_trade.ensures).seller }

pub invariant_of-result-3 : goal.invariant_of-result-3
invariant_of-result-3 c =
    let sound = trade_sound _ c.args.trade c.f.invariant c.in_ok-judge_trade.ensures in
    record { is_buyer = refl; is_seller = refl; quantity = sound.quantity; price = sound.price }
