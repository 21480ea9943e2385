use Rattle.std.proofs.Common.{◌≡◌, map, length, take, drop}
use Rattle.std.specs.List.{All, flat_map}
use Rattle.feed.specs.Shown.{told}
use Rattle.feed_write.specs.Written.{bytes, list_end, Wrote, WellFormed}
use Rattle.feed_write.proofs.write.put_feed.Given as goal

-- the entries so far are written, and what is left ends where the whole does
abbrev pub invariant-loop-entry : goal.invariant-loop-entry
invariant-loop-entry l =
    let room = length l.initial.out in
    Wrote l.initial.out l.initial.place (flat_map bytes (map told (take l.entry-index l.entries))) l.out l.place
    × (list_end room l.initial.place (map told l.entries) ≡ list_end room l.place (map told (drop l.entry-index l.entries)))
    × All WellFormed (map told (take l.entry-index l.entries))
