-- The number of each refusal of a feed. Assumes nothing.
use Rattle.std.specs.Prelude.{ℕ}
use Rattle.feed.specs.declared.fault.FeedFault.{FeedFault}
use Rattle.feed.specs.declared.fault.FeedFault.TheVariants.{Mark, Version, CutShort, Kind, Length, FlagLetters, AfterEnd}

abbrev pub number_of : FeedFault → ℕ
number_of Mark = 21
number_of Version = 22
number_of CutShort = 23
number_of Kind = 24
number_of Length = 25
number_of FlagLetters = 26
number_of AfterEnd = 27
