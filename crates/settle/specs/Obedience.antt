-- What a command on a book is answered, and what it leaves.
use Rattle.std.specs.Prelude.{◌≡◌, ℕ, List, [], ◌∷◌, Ok, Err, Result}
use Rattle.book.specs.declared.fault.BookFault.{BookFault}
use Rattle.book.specs.declared.fault.BookFault.TheVariants.{NoAccount, NoAsset}
use Rattle.book.specs.Ledger.{Ledger}
use Rattle.book.specs.Movement as movement
use Rattle.book.specs.Movement.{Movement, refusals, no_account, no_asset, Shifted}
use Rattle.book.specs.Refusals.{Refusal, ◌when◌, first}
use Rattle.script.specs.declared.command.BookCommand.{BookCommand}
use Rattle.script.specs.declared.command.BookCommand.TheVariants as command
use Rattle.settle.specs.declared.answer.Reply.{Reply}
use Rattle.settle.specs.declared.answer.Reply.TheVariants.{Done, Amount, Balances}

-- A movement is answered by the first of its refusals that applies.
abbrev pub judged : Ledger → Movement → Result Reply BookFault
judged b m = first Err (Ok Done) (refusals b m)

-- The refusals of a question for a balance, in their order.
abbrev pub balance_refusals : Ledger → ℕ → ℕ → List (Refusal BookFault)
balance_refusals b a s =
    NoAccount when no_account b a ∷
    NoAsset when no_asset b s ∷ []

abbrev pub answer_to : Ledger → BookCommand → Result Reply BookFault
answer_to b (command.Put a s n) = judged b (movement.Put a s n)
answer_to b (command.Pull a s n) = judged b (movement.Pull a s n)
answer_to b (command.Move a c s n) = judged b (movement.Move a c s n)
answer_to b (command.Balance a s) = first Err (Ok (Amount (b.held a s))) (balance_refusals b a s)
answer_to b command.Balances = Ok (Balances b.space)

-- The command leaves the book t of the book b. A question leaves it as it was.
abbrev pub Left : BookCommand → Ledger → Ledger → Type 0
Left (command.Put a s n) b t = Shifted (movement.Put a s n) b t
Left (command.Pull a s n) b t = Shifted (movement.Pull a s n) b t
Left (command.Move a c s n) b t = Shifted (movement.Move a c s n) b t
Left (command.Balance a s) b t = t ≡ b
Left command.Balances b t = t ≡ b
