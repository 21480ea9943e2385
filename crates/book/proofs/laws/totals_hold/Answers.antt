use Rattle.book.proofs.Totals.{totals_follow, totals_within}
use Rattle.book.proofs.laws.totals_hold.Goals as goal

pub returns : goal.returns
returns c = record { follow = totals_follow; within = totals_within }
