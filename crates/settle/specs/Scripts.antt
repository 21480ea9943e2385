-- A script is answered line by line.
use Rattle.std.specs.Prelude.{◌≡◌, ℕ, false, List, [], ◌∷◌, ◌++◌, Option, ◌==◌}
use Rattle.std.specs.List.{flat_map, AllByRecursion}
use Rattle.std.specs.Option.{option_to_list}
use Rattle.script.specs.Meaning.{meaning}
use Rattle.settle.specs.declared.desk.Desk.{Desk}
use Rattle.settle.specs.declared.session.Session.{Session}
use Rattle.settle.specs.Answers.{Answer}
use Rattle.settle.specs.Desks.{Took}
use Rattle.settle.specs.Sessions.{Turn}

-- The bytes were taken one by one: the desk d became e, and gave the answers rs.
abbrev pub Ran : List ℕ → Desk → List Answer → Desk → Type 0
Ran [] d rs e = (rs ≡ []) × (e ≡ d)
Ran (b ∷ bs) d rs e = (r : Option Answer) × (f : Desk) × (left : List Answer) × (rs ≡ option_to_list r ++ left) × Took b d r f × Ran bs f left e

-- The lines were answered one by one, each by what it says: the session s became t, and gave the answers rs.
abbrev pub AnsweredAll : List (List ℕ) → Session → List Answer → Session → Type 0
AnsweredAll [] s rs t = (rs ≡ []) × (t ≡ s)
AnsweredAll (l ∷ ls) s rs t = (r : Option Answer) × (u : Session) × (left : List Answer) × (rs ≡ option_to_list r ++ left) × Turn (meaning l) s r u × AnsweredAll ls u left t

-- A line has no line feed in it.
abbrev pub Unbroken : List ℕ → Type 0
Unbroken l = AllByRecursion (λ b. (b == 10) ≡ false) l

-- The lines as a script has them, each ended by a line feed.
abbrev pub script_of : List (List ℕ) → List ℕ
script_of lines = flat_map (λ l. l ++ 10 ∷ []) lines

-- From a desk where a line begins, the bytes of a script are answered as its lines are.
abbrev pub LineByLine : Type 0
LineByLine =
    (lines : List (List ℕ)) (d e : Desk) (rs : List Answer) → d.line ≡ [] →
    AllByRecursion Unbroken lines → Ran (script_of lines) d rs e → AnsweredAll lines d.session rs e.session
