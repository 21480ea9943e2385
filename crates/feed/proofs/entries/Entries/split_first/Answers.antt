use Rattle.feed.proofs.Turns.{still_good, one_less}
use Rattle.feed.proofs.entries.Entries.split_first.Goals as goal

pub invariant_of-result : goal.invariant_of-result
invariant_of-result c =
    let h = rw c.in_ok-entry.was at c.in-Ok.ensures.step.2 in
    record { good = rw c.in-Ok.ensures.step.1 (still_good _ _ _ _ h c.args.self.now.good) }

pub returns : goal.returns
returns c =
    let h = rw c.in_ok-entry.was at c.in-Ok.ensures.step.2 in
    rw (c.place-place.ensures, c.in-Ok.ensures.step.1) (one_less _ _ _ _ h c.args.self.now.good)
