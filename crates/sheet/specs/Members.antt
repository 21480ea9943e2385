-- How a member stands, as text.
use Rattle.std.specs.Prelude.{ℕ, List, ◌++◌, codes, decimal}
use Rattle.std.specs.Fmt.{signed_decimal}
use Rattle.rules.specs.declared.figures.Member.{Member}
use Rattle.rules.specs.State.{State, call, member, sum_owed}
use Rattle.sheet.specs.declared.member.Standing.{Standing}

abbrev pub standing_of : State → ℕ → Standing
standing_of s m = record { member = m; figures = member s.figures m; call = call s m; owed = sum_owed s.figures m }

-- member M position P advances A charges C
abbrev pub debt_text : ℕ → Member → List ℕ
debt_text m r =
    codes "member " ++ (decimal m ++ (codes " position " ++ (signed_decimal r.position ++
    (codes " advances " ++ (decimal r.advances ++ (codes " charges " ++ decimal r.charges))))))

-- growth GS GC requirement R call K owes O
abbrev pub duty_text : Standing → List ℕ
duty_text s =
    codes "growth " ++ (decimal s.figures.shares.growth ++ (codes " " ++ (decimal s.figures.cash.growth ++
    (codes " requirement " ++ (decimal s.figures.requirement ++ (codes " call " ++ (decimal s.call ++ (codes " owes " ++ decimal s.owed))))))))

abbrev pub standing_text : Standing → List ℕ
standing_text s = debt_text s.member s.figures ++ (codes " " ++ duty_text s)
