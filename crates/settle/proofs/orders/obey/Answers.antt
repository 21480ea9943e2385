use Rattle.std.proofs.Common.{◌≡◌, ◌∙◌, Bool, cond, Ok, Err, Result, arith}
use Rattle.std.proofs.lemmas.Grind.{common_steps}
use Rattle.std.specs.Result.{result_and}
use Rattle.book.specs.declared.fault.BookFault.{BookFault}
use Rattle.book.specs.declared.fault.BookFault.TheVariants.{NoAccount, NoAsset, BadAmount, NoSpace, TooLittle, TooMuch}
use Rattle.book.specs.Faults.{answer_number}
use Rattle.settle.specs.declared.answer.Reply.{Reply}
use Rattle.settle.specs.declared.answer.Reply.TheVariants.{Done}
use Rattle.settle.proofs.orders.obey.Goals as goal

-- An answer that has the number of the first refusal is that refusal. The last one of a movement out is that too little is held, of one in that it is too much.
heard_out : (r : Result (Unit {0}) BookFault) (p q s t u : Bool) → answer_number r ≡ cond p 20 (cond q 2 (cond s 4 (cond t 6 (cond u 7 0))))
    → result_and {U = Reply} r (Ok Done) ≡ cond p (Err NoAccount) (cond q (Err NoAsset) (cond s (Err BadAmount) (cond t (Err NoSpace) (cond u (Err TooLittle) (Ok Done)))))
heard_out r p q s t u e = grind (arith, common_steps)

heard_in : (r : Result (Unit {0}) BookFault) (p q s t u : Bool) → answer_number r ≡ cond p 20 (cond q 2 (cond s 4 (cond t 6 (cond u 8 0))))
    → result_and {U = Reply} r (Ok Done) ≡ cond p (Err NoAccount) (cond q (Err NoAsset) (cond s (Err BadAmount) (cond t (Err NoSpace) (cond u (Err TooMuch) (Ok Done)))))
heard_in r p q s t u e = grind (arith, common_steps)

pub returns-in-Put-clause-answer : goal.returns-in-Put-clause-answer
returns-in-Put-clause-answer g c = λ good. rw c.in-Put.is (c.and.ensures ∙ heard_in c.put.result _ _ _ _ _ (c.put.ensures.carried good).answer)

pub returns-in-Pull-clause-answer : goal.returns-in-Pull-clause-answer
returns-in-Pull-clause-answer g c = λ good. rw c.in-Pull.is (c.and-in-Pull.ensures ∙ heard_out c.pull.result _ _ _ _ _ (c.pull.ensures.carried good).answer)

pub returns-in-Move-clause-answer : goal.returns-in-Move-clause-answer
returns-in-Move-clause-answer g c = λ good. rw c.in-Move.is (c.and-in-Move.ensures ∙ heard_out c.transfer.result _ _ _ _ _ (c.transfer.ensures.carried good).answer)
