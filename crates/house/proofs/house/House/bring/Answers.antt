use Rattle.std.proofs.Common.{refl}
use Rattle.house.proofs.Brought.{brought}
use Rattle.house.proofs.Same.{same_house}
use Rattle.house.proofs.house.House.bring.Goals as goal

pub same-self : goal.same-self
same-self g c = same_house _ _

pub returns : goal.returns
returns g c = rw (← c.self.view_is) record {
  handled = λ good. rw c.in_ok-figures.ensures (λ counted. brought (g.R.Rank.goes c.self.inside.rank) _ _ _ _ _ _ _ counted (c.bring.ensures.passed good));
  stays = c.bring.ensures.stays;
  rank = refl;
  refusal = refl;
}
