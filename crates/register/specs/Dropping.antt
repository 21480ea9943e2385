-- Lines that are finished make place, and the rest of the register is packed.
use Rattle.std.specs.Prelude.{◌≡◌, ℕ, zero, suc, ◌-◌, ◌≤◌, Bool, cond, not, ◌&&◌, List, [], ◌∷◌, ◌++◌, length, take, replicate, ◌==◌}
use Rattle.register.specs.declared.line.Line.{Line}
use Rattle.register.specs.declared.Register.{Register}
use Rattle.register.specs.Limits.{register_places}
use Rattle.register.specs.Lines.{no_line, line, due_by}

-- A line due by a day that has no rest.
abbrev pub finished_by : ℕ → Line → Bool
finished_by day l = due_by day l && l.rest == 0

-- The first n lines that pass a test, in their order.
abbrev pub lines_if : (Line → Bool) → Register → ℕ → List Line
lines_if p g zero = []
lines_if p g (suc n) = lines_if p g n ++ cond (p (line g n)) (line g n ∷ []) []

-- A register of these lines; the places behind them are empty.
abbrev pub register_of : List Line → Register
register_of ls = record { count = length ls; lines = ls ++ replicate (register_places - length ls) no_line }

-- The lines that are not finished by a day, and the register of them.
abbrev pub unfinished : ℕ → Register → ℕ → List Line
unfinished day g n = lines_if (λ l. not (finished_by day l)) g n

abbrev pub without_finished : ℕ → Register → Register
without_finished day g = register_of (unfinished day g g.count)

-- The first `filled` places of a register have what is unfinished of the first n lines of the register before;
-- the places behind those n stand as they stood.
pub record Packed (day : ℕ) (before after : Register) (n filled : ℕ) : Type 0 where
  pub front : take filled after.lines ≡ unfinished day before n
  pub behind : (i : ℕ) → n ≤ i → line after i ≡ line before i
  pub few : filled ≤ n
  pub count : after.count ≡ before.count
  pub places : length after.lines ≡ register_places
