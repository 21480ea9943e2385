-- The end of a day, and cash settlement.
use Rattle.std.specs.Prelude.{ℕ, suc, ◌+◌, ◌/◌, Bool, List, map, ◌==◌}
use Rattle.register.specs.declared.line.Line.{Line}
use Rattle.rules.specs.declared.figures.Phase.TheVariants.{Morning}
use Rattle.rules.specs.declared.figures.Figures.{Figures}
use Rattle.rules.specs.State.{State, today, with_clock, with_register, with_figures}
use Rattle.register.specs.Lines.{in_group}
use Rattle.register.specs.Netting.{due_day}
use Rattle.register.specs.Dropping.{finished_by, without_finished}
use Rattle.rules.specs.Run.{Act, close_line, require, compensate, performed, places_if, all_members}

-- Lines traded today.
abbrev pub traded_today : Figures → Line → Bool
traded_today f l = l.claim.key.due == due_day (today f)

abbrev pub closings : State → List Act
closings s = map close_line (places_if (traded_today s.figures) s.figures.register s.figures.register.count)

abbrev pub requirements : State → List Act
requirements s = map require (all_members s)

-- A line due by today that has no rest.
abbrev pub finished : Figures → Line → Bool
finished f l = finished_by (today f) l

-- Finished lines make place.
abbrev pub dropped : Figures → Figures
dropped f = with_register f (without_finished (today f) f.register)

abbrev pub next_morning : Figures → Figures
next_morning f = with_clock f (record { day = suc (today f); phase = Morning })

-- The day ends: settlement prices and differences of today's lines, finished lines removed, requirements, the next morning.
abbrev pub closed_day : State → State
closed_day s = performed s (closings s)

abbrev pub cleared_day : State → State
cleared_day s = with_figures (closed_day s) (dropped (closed_day s).figures)

abbrev pub required_day : State → State
required_day s = performed (cleared_day s) (requirements (cleared_day s))

abbrev pub ended_day : State → State
ended_day s = with_figures (required_day s) (next_morning (required_day s).figures)

-- The compensation for a share: the highest price and a tenth of it, rounded up.
abbrev pub compensation : ℕ → ℕ
compensation highest = highest + (highest + 9) / 10

abbrev pub cash_settlements : State → ℕ → ℕ → ℕ → List Act
cash_settlements s due security highest =
    map (λ i. compensate i (compensation highest)) (places_if (in_group due security) s.figures.register s.figures.register.count)
