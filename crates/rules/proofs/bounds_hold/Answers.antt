use Rattle.rules.proofs.Fits.{bounds_kept}
use Rattle.rules.proofs.bounds_hold.Goals as goal

pub returns : goal.returns
returns c = bounds_kept
