-- A verdict as a number and as text. Assumes nothing.
use Rattle.std.specs.Prelude.{ℕ, cond, List, is_ok, Ok, Err, codes, decimal, Result}
use Rattle.feed.specs.declared.fault.FeedFault.{FeedFault}
use Rattle.feed.specs.Faults.{number_of}

-- the number of a verdict: 0 where it accepts
abbrev pub code : Result (Unit {0}) FeedFault → ℕ
code (Ok u) = 0
code (Err f) = number_of f

-- what is shown of a verdict: ok where it accepts, else the refusal's number
abbrev pub shown : Result (Unit {0}) FeedFault → List ℕ
shown r = cond (is_ok r) (codes "ok") (decimal (code r))
