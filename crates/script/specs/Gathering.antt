-- What is kept of a line while its bytes come in.
use Rattle.std.specs.Prelude.{◌≡◌, ℕ, ◌+◌, cond, List, [], ◌∷◌, ◌++◌, length, fold, nat_lt}
use Rattle.script.specs.Meaning.{most_line, meaning}

-- One byte more than a line may have.
abbrev pub room : ℕ
room = most_line + 1

-- The line with a byte more, where there is room.
abbrev pub pushed : List ℕ → ℕ → List ℕ
pushed line b = cond (nat_lt (length line) room) (line ++ b ∷ []) line

-- Bytes that come one after the other say what they say together, however many they are.
abbrev pub WholeLines : Type 0
WholeLines = (bytes : List ℕ) → meaning (fold pushed [] bytes) ≡ meaning bytes
