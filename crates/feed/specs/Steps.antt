-- What a step of a reader does, by a reading. Assumes nothing.
use Rattle.std.specs.Prelude.{◌≡◌, ℕ, ◌≤◌, List, Ok, Err, Result}
use Rattle.std.specs.Borrow.{Bor}
use Rattle.feed.specs.declared.fault.FeedFault.{FeedFault}
use Rattle.feed.specs.declared.reader.Reader.{Reader}
use Rattle.feed.specs.Readings.{Read, Reading}

-- r is what `read` gives: a value that is meant by `means`, and the place after it, or the fault
abbrev pub Gives : {X Y : Type 0} → (X → Y) → Read Y → Result X FeedFault → ℕ → Type 0
Gives means read (Ok x) q = read ≡ Ok (means x, q)
Gives means read (Err e) q = read ≡ Err e

-- the reader goes by `reading` from one place to another over the same bytes, and answers r
abbrev pub Step : {X Y : Type 0} → (X → Y) → Reading Y → Reader → Reader → Result X FeedFault → Type 0
Step means reading from to r =
    (from.place ≤ to.place) × (to.bytes.now ≡ from.bytes.now) × Gives means (reading from.bytes.now from.place) r to.place

abbrev pub itself : {X : Type 0} → X → X
itself x = x

-- what a lent part holds
abbrev pub held : Bor (List ℕ) → List ℕ
held s = s.now
