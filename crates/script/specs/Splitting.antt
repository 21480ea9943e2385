-- How a line is cut into words.
use Rattle.std.specs.Prelude.{ℕ, Bool, cond, not, ◌||◌, List, [], ◌∷◌, ◌++◌, ◌==◌}

-- A space, a tab or a carriage return.
abbrev pub white : ℕ → Bool
white b = b == 32 || b == 9 || b == 13

abbrev pub dark : ℕ → Bool
dark b = not (white b)

-- A word, if there is one, and then others.
abbrev pub ahead : List ℕ → List (List ℕ) → List (List ℕ)
ahead [] ws = ws
ahead (b ∷ bs) ws = (b ∷ bs) ∷ ws

-- The words of a text that goes on with the word w.
abbrev pub words_on : List ℕ → List ℕ → List (List ℕ)
words_on w [] = ahead w []
words_on w (b ∷ bs) = cond (white b) (ahead w (words_on [] bs)) (words_on (w ++ b ∷ []) bs)

-- The words of a line: its longest runs of bytes that are no white space.
abbrev pub words_of : List ℕ → List (List ℕ)
words_of line = words_on [] line
