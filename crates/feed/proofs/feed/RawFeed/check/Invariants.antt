use Rattle.std.proofs.Common.{◌≡◌, ◌-◌, length}
use Rattle.feed.specs.Format.{verdict, judged, list_from}
use Rattle.feed.proofs.feed.RawFeed.check.Given as goal

-- the verdict is that of what is still to be read
abbrev pub invariant-loop : goal.invariant-loop
invariant-loop l =
    let bs = l.self.bytes.now in
    (l.reader.bytes.now ≡ bs) × (verdict bs ≡ judged (list_from bs l.reader.place))

abbrev pub decreases-loop : goal.decreases-loop
decreases-loop l = length l.self.bytes.now - l.reader.place
