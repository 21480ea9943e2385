use Rattle.house.proofs.house.House.open.Goals as goal

pub invariant_of-result : goal.invariant_of-result
invariant_of-result g c = (c.begin-state.ensures.fit, tt)
