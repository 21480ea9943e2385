-- The figures of a house as contracts see them.
use Rattle.std.specs.Prelude.{◌≡◌, ℕ, List, [], ◌∷◌, map}
use Rattle.register.specs.declared.Register.{Register}
use Rattle.rules.specs.declared.figures.Member.{Member}
use Rattle.rules.specs.declared.figures.Row.{Row}
use Rattle.rules.specs.declared.figures.Seat.{Seat}
use Rattle.rules.specs.declared.figures.Size.{Size}
use Rattle.rules.specs.declared.figures.Clock.{Clock}

pub record Tallies : Type 0 where
  pub size : Size
  pub clock : Clock
  pub register : Register
  pub records : List Member
  pub escrow : List Row
  pub closes : List ℕ
  pub fails : ℕ

-- These figures, with the seats of the members.
abbrev pub tallied : Size → Clock → Register → List Seat → List ℕ → ℕ → Tallies
tallied z c g xs ps n = record {
  size = z;
  clock = c;
  register = g;
  records = map (λ x. x.member) xs;
  escrow = map (λ x. x.escrow) xs;
  closes = ps;
  fails = n;
}

-- The seats of these members with these shares in escrow. So the figures are told from what contracts see of them.
abbrev pub seated : List Member → List Row → List Seat
seated [] es = []
seated (m ∷ ms) [] = []
seated (m ∷ ms) (e ∷ es) = record { member = m; escrow = e } ∷ seated ms es

pub seated_again : (xs : List Seat) → seated (map (λ x. x.member) xs) (map (λ x. x.escrow) xs) ≡ xs
seated_again [] = λ i. []
seated_again (x ∷ xs) = λ i. x ∷ seated_again xs i
