-- What the register answers when it is asked for a line.
use Rattle.std.specs.Prelude.{ℕ, zero, suc, ◌-◌, cond, not, ◌&&◌, ◌||◌, Some, None, Option, nat_le, nat_lt}
use Rattle.rank.specs.declared.key.Key.{Key}
use Rattle.rank.specs.Keys.{key_number}
use Rattle.register.specs.declared.line.Line.{Line}
use Rattle.register.specs.declared.Register.{Register}
use Rattle.register.specs.Limits.{register_places}
use Rattle.register.specs.Lines.{line, key}
use Rattle.register.specs.Netting.{known, line_of}

-- The places that are free.
abbrev pub free_in : Register → ℕ
free_in g = register_places - g.count

-- The line at a place; none behind the last line.
abbrev pub line_asked_at : Register → ℕ → Option Line
line_asked_at g i = cond (nat_lt i g.count) (Some (line g i)) None

-- The line that has a key; an unknown line is none.
abbrev pub line_asked : Register → Key → Option Line
line_asked g k = cond (known g k) (Some (line_of g k)) None

-- Of the first n places and one more, the one whose key has the smallest number from a number on, where `best` is that
-- of the first n, or n where there is none; then suc n where there is none.
abbrev pub smaller_from : Register → ℕ → ℕ → ℕ → ℕ
smaller_from g from best n =
    let here = key_number (key g n) in
    cond (nat_le from here && (not (nat_lt best n) || nat_lt here (key_number (key g best)))) n (cond (nat_lt best n) best (suc n))

-- Of the first n places, the one whose key has the smallest number from a number on; n where there is none.
abbrev pub smallest_from : Register → ℕ → ℕ → ℕ
smallest_from g from zero = zero
smallest_from g from (suc n) = smaller_from g from (smallest_from g from n) n

-- The line whose key has the smallest number from a number on: asked again from the next number, it lists all lines by rising key.
abbrev pub line_from : Register → ℕ → Option Line
line_from g from = line_asked_at g (smallest_from g from g.count)
