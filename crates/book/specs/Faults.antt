-- The number of each refusal of a book, and of an answer.
use Rattle.std.specs.Prelude.{◌≡◌, ℕ, Bool, not, ◌&&◌, List, [], ◌∷◌, Ok, Err, Result, nat_le, nat_lt}
use Rattle.book.specs.Ledger.{most_accounts, most_assets}
use Rattle.book.specs.Refusals.{Refusal, ◌when◌, first}
use Rattle.book.specs.declared.fault.BookFault.{BookFault}
use Rattle.book.specs.declared.fault.BookFault.TheVariants.{NoAccount, NoAsset, BadAmount, NoSpace, TooLittle, TooMuch, BadCounts}

abbrev pub fault_number : BookFault → ℕ
fault_number NoAsset = 2
fault_number BadAmount = 4
fault_number NoSpace = 6
fault_number TooLittle = 7
fault_number TooMuch = 8
fault_number BadCounts = 19
fault_number NoAccount = 20

-- The number of an answer: 0 for an accepted call.
abbrev pub answer_number : {X : Type 0} → Result X BookFault → ℕ
answer_number (Ok x) = 0
answer_number (Err f) = fault_number f

-- An accepted question tells n.
abbrev pub answered : Result ℕ BookFault → ℕ → Type 0
answered (Ok x) n = x ≡ n
answered (Err f) n = Unit {0}

-- The number of the first of a call's refusals that applies; 0 where none does.
abbrev pub number_of : List (Refusal BookFault) → ℕ
number_of rs = first fault_number 0 rs

-- A number from 1 to the most.
abbrev pub from_one_to : ℕ → ℕ → Bool
from_one_to most n = nat_lt 0 n && nat_le n most

-- The answer to the counts of a book.
abbrev pub counts_number : ℕ → ℕ → ℕ
counts_number accounts assets =
    number_of (BadCounts when not (from_one_to most_accounts accounts && from_one_to most_assets assets) ∷ [])
