-- What a house answers to a trade, and what it leaves.
use Rattle.std.specs.Prelude.{[]}
use Rattle.register.specs.declared.trade.Trade.{Trade}
use Rattle.rules.specs.declared.figures.Figures.{Figures}
use Rattle.rules.specs.Faults.{Answer, answer_by}
use Rattle.rules.specs.State.{with_register}
use Rattle.rules.specs.Events.{trade_refusals, netting_refusals, register_traded}

-- What is wrong with a trade as such.
abbrev pub trade_judged : Figures → Trade → Answer
trade_judged f t = answer_by (trade_refusals f t [])

-- Where it would find no place, or make a line or find a position too large.
abbrev pub netting_judged : Figures → Trade → Answer
netting_judged f t = answer_by (netting_refusals f t)

-- One after the other.
abbrev pub novate_judged : Figures → Trade → Answer
novate_judged f t = answer_by (trade_refusals f t (netting_refusals f t))

-- The figures with a trade of today.
abbrev pub figures_traded : Figures → Trade → Figures
figures_traded f t = with_register f (register_traded f t)
