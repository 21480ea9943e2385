-- What is kept of a line is enough.
use Rattle.std.proofs.Common.{◌≡◌, ℕ, ◌<◌, ◌≤◌, List, [], ◌∷◌, ◌++◌, length, take, Err, fold, sym, ap, ◌∙◌, ⊎_elim, append_assoc, append-nil, arith, length-take}
use Rattle.std.proofs.lemmas.Bool.{cases_lt, lt-ltb, le-ltb, lt-leb}
use Rattle.std.proofs.lemmas.List.{take_all, take-append-le, length_push}
use Rattle.script.specs.declared.misread.Misread.TheVariants.{Long}
use Rattle.script.specs.Gathering.{room, pushed, WholeLines}
use Rattle.script.specs.Meaning.{most_line, meaning}

-- As many of the bytes that came are kept as there is room for.
held : (line bytes : List ℕ) → length line ≤ room → fold pushed line bytes ≡ take room (line ++ bytes)
held line [] within = sym (ap (take room) (append-nil line) ∙ take_all room line within)
held line (b ∷ bytes) within =
    ⊎_elim
    (λ free. rw (lt-ltb (length line) room free) (held (line ++ b ∷ []) bytes (omega (arith, length_push line b)) ∙ ap (take room) (append_assoc line (b ∷ []) bytes)))
    (λ full. rw (le-ltb (length line) room full) (held line bytes within ∙ take-append-le room line bytes full ∙ sym (take-append-le room line (b ∷ bytes) full)))
    (cases_lt (length line) room)

too_long : (l : List ℕ) → most_line < length l → meaning l ≡ Err Long
too_long l h = rw (lt-leb (length l) most_line h)

-- A line that is cut after one byte too many is too long still.
meaning_cut : (l : List ℕ) → meaning (take room l) ≡ meaning l
meaning_cut l =
    ⊎_elim
    (λ over. too_long (take room l) (omega (arith, length-take room l)) ∙ sym (too_long l over))
    (λ fits. ap meaning (take_all room l (omega arith)))
    (cases_lt most_line (length l))

pub whole_lines : WholeLines
whole_lines bytes = ap meaning (held [] bytes (omega arith)) ∙ meaning_cut bytes
