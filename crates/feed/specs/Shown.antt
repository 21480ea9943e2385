-- What the entries of the code say. Assumes nothing.
use Rattle.std.specs.Prelude.{Option}
use Rattle.std.specs.Option.{option_map}
use Rattle.feed.specs.declared.entry.Entry.{Entry}
use Rattle.feed.specs.declared.entry.Entry.TheVariants.{Trade, Close}
use Rattle.feed.specs.Format.{Told, trade, close}

abbrev pub told : Entry → Told
told (Trade r b bf s sf x q p) = trade r.now b bf s sf x q p
told (Close x p) = close x p

abbrev pub told_if_any : Option Entry → Option Told
told_if_any e = option_map told e
