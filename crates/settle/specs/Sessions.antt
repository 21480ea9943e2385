-- What a line of a script is answered, and what it leaves.
use Rattle.std.specs.Prelude.{◌≡◌, ℕ, ◌+◌, ◌-◌, ◌^◌, min, Bool, false, cond, Some, None, Ok, Err, Option, Result, nat_lt}
use Rattle.book.specs.declared.fault.BookFault.{BookFault}
use Rattle.book.specs.declared.fault.BookFault.TheVariants.{BadCounts}
use Rattle.book.specs.Faults.{fault_number, counts_number}
use Rattle.book.specs.Ledger.{Empty, most_space}
use Rattle.script.specs.declared.command.Command.{Command}
use Rattle.script.specs.declared.command.Command.TheVariants as command
use Rattle.script.specs.declared.command.BookCommand.{BookCommand}
use Rattle.script.specs.declared.misread.Misread as script
use Rattle.table.specs.declared.Table.{Table}
use Rattle.table.specs.Meaning.{meaning}
use Rattle.settle.specs.declared.answer.Reply.{Reply}
use Rattle.settle.specs.declared.answer.Reply.TheVariants.{Done}
use Rattle.settle.specs.declared.answer.Trouble.TheVariants.{Refused, NoBook, Misread}
use Rattle.settle.specs.declared.session.Session.{Session}
use Rattle.settle.specs.Answers.{Answer, is_error}
use Rattle.settle.specs.Obedience.{answer_to, Left}

-- A table of n accounts and m assets was asked for: counts out of range leave no book, others an empty table.
abbrev pub Made : ℕ → ℕ → Answer → Option Table → Type 0
Made n m r None = (counts_number n m ≡ fault_number BadCounts) × (r ≡ Err (Refused BadCounts))
Made n m r (Some t) = (counts_number n m ≡ 0) × (r ≡ Ok Done) × Empty n m (meaning t) × ((meaning t).space ≡ most_space)

-- The book's own answer as the program's.
abbrev pub heard : Result Reply BookFault → Answer
heard (Ok reply) = Ok reply
heard (Err fault) = Err (Refused fault)

-- The book b was told to do c, answered r and is t now.
abbrev pub Did : BookCommand → Table → Answer → Option Table → Type 0
Did c b r None = ⊥
Did c b r (Some t) = (r ≡ heard (answer_to (meaning b) c)) × Left c (meaning b) (meaning t)

-- A command is answered r and leaves the book t of the book b, where there is one.
abbrev pub Obeyed : Command → Option Table → Answer → Option Table → Type 0
Obeyed (command.Table n m) b r t = Made n m r t
Obeyed (command.OnBook c) None r t = (r ≡ Err NoBook) × (t ≡ None)
Obeyed (command.OnBook c) (Some b) r t = Did c b r t

-- What a line says, the n-th, is answered r. A line that says nothing has no answer.
abbrev pub Answered : Result (Option Command) script.Misread → ℕ → Option Table → Option Answer → Option Table → Type 0
Answered (Err why) n b r t = (r ≡ Some (Err (Misread n why))) × (t ≡ b)
Answered (Ok None) n b r t = (r ≡ None) × (t ≡ b)
Answered (Ok (Some c)) n b None t = ⊥
Answered (Ok (Some c)) n b (Some r) t = Obeyed c b r t

abbrev pub any_error : Option Answer → Bool
any_error None = false
any_error (Some (Ok reply)) = false
any_error (Some (Err trouble)) = is_error trouble

-- Counts go as far as a number of 64 bits.
abbrev pub counted : ℕ → ℕ
counted n = min n (2 ^ 64 - 1)

-- Whether any line was answered by an error.
abbrev pub failed : Session → Bool
failed s = nat_lt 0 s.errors

-- One line's turn. Lines are counted from 1.
pub record Turn (said : Result (Option Command) script.Misread) (s : Session) (r : Option Answer) (t : Session) : Type 0 where
  pub lines : t.lines ≡ counted (s.lines + 1)
  pub answered : Answered said t.lines s.book r t.book
  pub errors : t.errors ≡ cond (any_error r) (counted (s.errors + 1)) s.errors
