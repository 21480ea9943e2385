-- What a line says.
use Rattle.std.specs.Prelude.{ℕ, Bool, cond, List, [], ◌∷◌, length, Some, None, Ok, Err, Option, Result, ◌==◌, nat_le, slice_index}
use Rattle.script.specs.declared.command.Command.{Command}
use Rattle.script.specs.declared.misread.Misread.{Misread}
use Rattle.script.specs.declared.misread.Misread.TheVariants.{Long}
use Rattle.script.specs.Forms.{◌>>=◌, Reading, told, end}
use Rattle.script.specs.Splitting.{words_of}

-- The most bytes of a line.
abbrev pub most_line : ℕ
most_line = 65536

-- A word that begins with #.
abbrev pub comment : List ℕ → Bool
comment w = slice_index w 0 == 35

-- A command is told whole: with a word left over, that is what is wrong.
abbrev pub whole : Reading → Result (Option Command) Misread
whole r = do
  p ← r
  _ ← end p.1
  Ok (Some p.0)

abbrev pub spoken : List (List ℕ) → Result (Option Command) Misread
spoken [] = Ok None
spoken (w ∷ ws) = cond (comment w) (Ok None) (whole (told w ws))

-- A line says a command, or nothing, or it has a first thing wrong with it.
abbrev pub meaning : List ℕ → Result (Option Command) Misread
meaning line = cond (nat_le (length line) most_line) (spoken (words_of line)) (Err Long)
