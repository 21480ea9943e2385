use Rattle.feed_write.proofs.Back.{round_trip}
use Rattle.feed_write.proofs.law.round_trip.Goals as goal

pub returns : goal.returns
returns c = round_trip
