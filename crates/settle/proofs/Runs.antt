-- The bytes of a script, taken one by one, are answered line by line.
use Rattle.std.proofs.Common.{◌≡◌, ℕ, List, [], ◌∷◌, ◌++◌, fold, Option, ap, ◌∙◌, subst, append_assoc}
use Rattle.std.proofs.lemmas.Bool.Decides.{when_false}
use Rattle.std.specs.Option.{option_to_list}
use Rattle.script.specs.Gathering.{pushed}
use Rattle.script.specs.Meaning.{meaning}
use Rattle.script.proofs.Keeps.{whole_lines}
use Rattle.settle.specs.declared.desk.Desk.{Desk}
use Rattle.settle.specs.Answers.{Answer}
use Rattle.settle.specs.Desks.{Ended, Grown}
use Rattle.settle.specs.Scripts.{Ran, Unbroken, script_of, LineByLine}
use Rattle.settle.specs.Sessions.{Turn}

-- The line l of the desk d ended, and the rest went on from the desk after it.
record Passed (l rest : List ℕ) (d : Desk) (rs : List Answer) (e : Desk) : Type 0 where
  answer : Option Answer
  next : Desk
  left : List Answer
  split : rs ≡ option_to_list answer ++ left
  turn : Turn (meaning (fold pushed d.line l)) d.session answer next.session
  line : next.line ≡ []
  goes_on : Ran rest next left e

passed : (l rest : List ℕ) (d : Desk) (rs : List Answer) (e : Desk) → Unbroken l → Ran (l ++ 10 ∷ rest) d rs e → Passed l rest d rs e
passed [] rest d rs e whole ran =
    record { answer = ran.0; next = ran.1; left = ran.2; split = ran.3; turn = ran.4.turn; line = ran.4.line; goes_on = ran.5 }
passed (b ∷ l) rest d rs e whole ran =
    let grown : Grown b d ran.0 ran.1 = when_false (Ended d ran.0 ran.1) (Grown b d ran.0 ran.1) whole.0 ran.4 in
    let p = passed l rest ran.1 ran.2 e whole.1 ran.5 in
    record {
      answer = p.answer;
      next = p.next;
      left = p.left;
      split = ran.3 ∙ ap (λ r. option_to_list r ++ ran.2) grown.answer ∙ p.split;
      turn = subst (λ x. Turn (meaning (fold pushed x l)) d.session p.answer p.next.session) grown.line
          (subst (λ s. Turn (meaning (fold pushed ran.1.line l)) s p.answer p.next.session) grown.session p.turn);
      line = p.line;
      goes_on = p.goes_on;
    }

pub line_by_line : LineByLine
line_by_line [] d e rs fresh whole ran = (ran.0, ap (λ x. x.session) ran.1)
line_by_line (l ∷ ls) d e rs fresh whole ran =
    let p = passed l (script_of ls) d rs e whole.0 (subst (λ bs. Ran bs d rs e) (append_assoc l (10 ∷ []) (script_of ls)) ran) in
    let says : meaning (fold pushed d.line l) ≡ meaning l = ap (λ x. meaning (fold pushed x l)) fresh ∙ whole_lines l in (
      p.answer,
      p.next.session,
      p.left,
      p.split,
      subst (λ m. Turn m d.session p.answer p.next.session) says p.turn,
      line_by_line ls p.next e p.left p.line whole.1 p.goes_on,
    )
