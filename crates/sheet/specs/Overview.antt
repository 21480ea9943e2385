-- The first line of a statement, and the closing prices.
use Rattle.std.specs.Prelude.{ℕ, List, ◌++◌, codes, decimal}
use Rattle.book.specs.Ledger.{Ledger}
use Rattle.rules.specs.declared.figures.Figures.{Figures}
use Rattle.rules.specs.Words.{phase_word}
use Rattle.rules.specs.State.{close, today}
use Rattle.sheet.specs.declared.overview.Overview.{Overview}
use Rattle.sheet.specs.declared.overview.Closing.{Closing}

abbrev pub overview_of : Figures → Ledger → Overview
overview_of f b = record {
  day = today f;
  phase = f.clock.phase;
  fails = f.fails;
  space = b.space;
  lines = f.register.count;
}

-- day D PHASE fails F space P lines L
abbrev pub overview_text : Overview → List ℕ
overview_text v =
    codes "day " ++ (decimal v.day ++ (codes " " ++ (phase_word v.phase ++
    (codes " fails " ++ (decimal v.fails ++ (codes " space " ++ (decimal v.space ++ (codes " lines " ++ decimal v.lines))))))))

abbrev pub closing_of : Figures → ℕ → Closing
closing_of f t = record { security = t; price = close f t }

-- security S close C
abbrev pub closing_text : Closing → List ℕ
closing_text c = codes "security " ++ (decimal c.security ++ (codes " close " ++ decimal c.price))
