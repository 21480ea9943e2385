-- The line of a list whose key has the smallest number from a number on.
use Rattle.std.specs.Prelude.{ℕ, cond, ◌||◌, fold, List, Some, None, Option, nat_le, nat_lt}
use Rattle.rank.specs.Keys.{key_number}
use Rattle.register.specs.declared.line.Line.{Line}

-- The nearer of two lines, of which the first may be none: the one with the smaller number, of two with the same the first.
abbrev pub nearer : ℕ → Option Line → Line → Option Line
nearer from None l = cond (nat_lt (key_number l.claim.key) from) None (Some l)
nearer from (Some b) l =
    cond (nat_lt (key_number l.claim.key) from || nat_le (key_number b.claim.key) (key_number l.claim.key)) (Some b) (Some l)

abbrev pub nearest : ℕ → List Line → Option Line
nearest from ls = fold (nearer from) None ls
