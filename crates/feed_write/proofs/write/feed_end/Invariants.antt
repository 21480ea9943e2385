use Rattle.std.proofs.Common.{◌≡◌, ◌≤◌, map, drop}
use Rattle.feed.specs.Shown.{told}
use Rattle.feed_write.specs.Written.{feed_end, list_end}
use Rattle.feed_write.proofs.write.feed_end.Given as goal

-- what is left decides
abbrev pub invariant-loop-entry : goal.invariant-loop-entry
invariant-loop-entry l =
    (l.place ≤ l.room) × (feed_end l.room (map told l.entries) ≡ list_end l.room l.place (map told (drop l.entry-index l.entries)))
