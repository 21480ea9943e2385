-- The figures that a house is opened with.
use Rattle.std.proofs.Common.{◌≡◌, ℕ, [], replicate, refl, ap, ◌∙◌}
use Rattle.register.specs.declared.Register.{Register}
use Rattle.register.specs.Dropping.{register_of}
use Rattle.rules.specs.declared.figures.Member.{Member}
use Rattle.rules.specs.declared.figures.Phase.TheVariants.{Morning}
use Rattle.rules.specs.declared.figures.Figures.{Figures}
use Rattle.rules.specs.Tallies.{tallied}
use Rattle.rules.specs.State.{no_member, opened_figures}

abbrev pub over : ℕ → ℕ → Register → Member → Figures
over m s g r =
    tallied (record { members = m; securities = s }) (record { day = 1; phase = Morning }) g
    (replicate 25 (record { member = r; escrow = record { shares = replicate 17 0 } })) (replicate 17 0) 0

plain : (m s : ℕ) → over m s (register_of []) no_member ≡ opened_figures m s
plain m s = refl

pub made : (m s : ℕ) (g : Register) (r : Member) → g ≡ register_of [] → r ≡ no_member → over m s g r ≡ opened_figures m s
made m s g r eg er = ap (λ (x : Register). over m s x r) eg ∙ (ap (λ (x : Member). over m s (register_of []) x) er ∙ plain m s)
