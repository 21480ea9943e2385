use Rattle.house.proofs.Same.{same_house}
use Rattle.house.proofs.house.House.take.Goals as goal

pub same-self : goal.same-self
same-self g c = same_house _ _
