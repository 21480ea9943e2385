-- A house as its fields are, whichever proof says that its figures fit.
use Rattle.std.proofs.Common.{◌≡◌}
use mathlib.Core.HLevel.{is_prop→PathP}
use Rattle.rules.specs.Fit.{Fit}
use Rattle.rules.proofs.FitProp.{fit_prop}
use Rattle.house.specs.Seen.{Seen, figures_in}
use Rattle.house.specs.declared.house.House.TheInside.{Inside}

pub same_house : {B R : Type 0} {book : _} {rank : _} (h : Inside B R book rank) (fit : Fit (figures_in h.state))
    → record { book = h.book; rank = h.rank; state = h.state; fit = fit } ≡ h
same_house h fit = λ i. record { book = h.book; rank = h.rank; state = h.state; fit = fit_prop (figures_in h.state) fit h.fit i }

-- Houses of the same parts are the same, too, as contracts see them.
pub same_seen : {B R : Type 0} (a b : Seen B R) → a.book ≡ b.book → a.rank ≡ b.rank → a.refusal ≡ b.refusal → a.figures ≡ b.figures → a ≡ b
same_seen a b eb er ex ef = λ i. record {
  book = eb i;
  rank = er i;
  refusal = ex i;
  figures = ef i;
  fit = is_prop→PathP (λ j. Fit (ef j)) (λ j. fit_prop (ef j)) a.fit b.fit i;
}
