-- The text of an answer.
use Rattle.std.specs.Prelude.{ℕ, Bool, true, false, List, ◌++◌, codes, decimal, Result}
use Rattle.book.specs.Faults.{fault_number}
use Rattle.script.specs.Wording.{wording}
use Rattle.settle.specs.declared.answer.Reply.{Reply}
use Rattle.settle.specs.declared.answer.Reply.TheVariants.{Done, Amount, Balances}
use Rattle.settle.specs.declared.answer.Trouble.{Trouble}
use Rattle.settle.specs.declared.answer.Trouble.TheVariants.{Refused, NoBook, Misread}

abbrev pub Answer : Type 0
Answer = Result Reply Trouble

abbrev pub reply_text : Reply → List ℕ
reply_text Done = codes "ok"
reply_text (Amount n) = decimal n
reply_text (Balances space) = codes "space " ++ decimal space

abbrev pub trouble_text : Trouble → List ℕ
trouble_text (Refused fault) = codes "refused book " ++ decimal (fault_number fault)
trouble_text NoBook = codes "error no book"
trouble_text (Misread line why) = codes "error line " ++ (decimal line ++ (codes ": " ++ wording why))

-- After an error the program ends with status 1.
abbrev pub is_error : Trouble → Bool
is_error (Refused fault) = false
is_error NoBook = true
is_error (Misread line why) = true
