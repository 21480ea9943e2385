-- What a byte of a script does.
use Rattle.std.specs.Prelude.{◌≡◌, ℕ, None, [], MatchBool, Option, ◌==◌}
use Rattle.script.specs.Gathering.{pushed}
use Rattle.script.specs.Meaning.{meaning}
use Rattle.settle.specs.declared.desk.Desk.{Desk}
use Rattle.settle.specs.Answers.{Answer}
use Rattle.settle.specs.Sessions.{Turn}

-- The line of the desk d ends: it is answered r by what it says, and the next line begins.
pub record Ended (d : Desk) (r : Option Answer) (e : Desk) : Type 0 where
  pub turn : Turn (meaning d.line) d.session r e.session
  pub line : e.line ≡ []

-- The line goes on by a byte, which changes nothing else.
pub record Grown (byte : ℕ) (d : Desk) (r : Option Answer) (e : Desk) : Type 0 where
  pub answer : r ≡ None
  pub session : e.session ≡ d.session
  pub line : e.line ≡ pushed d.line byte

-- A line feed ends the line. Any other byte goes on with it.
abbrev pub Took : ℕ → Desk → Option Answer → Desk → Type 0
Took byte d r e = MatchBool (byte == 10) (Ended d r e) (Grown byte d r e)
