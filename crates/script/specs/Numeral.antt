-- Which words are numbers.
use Rattle.std.specs.Prelude.{ℕ, ◌+◌, ◌-◌, ◌*◌, Bool, cond, ◌&&◌, List, [], ◌∷◌, Ok, Err, Result, nat_le}
use Rattle.std.specs.List.{list_all}
use Rattle.script.specs.declared.misread.Misread.{Misread}
use Rattle.script.specs.declared.misread.Misread.TheVariants.{NoNumber, Range}

abbrev pub digit : ℕ → Bool
digit b = nat_le 48 b && nat_le b 57

abbrev pub digits : List ℕ → Bool
digits bs = list_all digit bs

-- What digits make of the number n before them.
abbrev pub value_on : ℕ → List ℕ → ℕ
value_on n [] = n
value_on n (b ∷ bs) = value_on (n * 10 + (b - 48)) bs

abbrev pub value : List ℕ → ℕ
value ds = value_on 0 ds

abbrev pub at_most : ℕ → ℕ → Result ℕ Misread
at_most most n = cond (nat_le n most) (Ok n) (Err Range)

-- A word of decimal digits alone is a number: no sign, no separator, any zeros in front.
abbrev pub numeral : ℕ → List ℕ → Result ℕ Misread
numeral most [] = Err NoNumber
numeral most (b ∷ bs) = cond (digits (b ∷ bs)) (at_most most (value (b ∷ bs))) (Err NoNumber)
