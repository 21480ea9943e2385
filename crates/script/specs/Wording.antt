-- What the writer of a script is told of a line that cannot be read.
use Rattle.std.specs.Prelude.{ℕ, List, codes}
use Rattle.script.specs.declared.misread.Misread.{Misread}
use Rattle.script.specs.declared.misread.Misread.TheVariants.{Long, Unknown, Count, NoNumber, Range}

abbrev pub wording : Misread → List ℕ
wording Long = codes "line too long"
wording Unknown = codes "unknown command"
wording Count = codes "wrong number of words"
wording NoNumber = codes "not a number"
wording Range = codes "number out of range"
