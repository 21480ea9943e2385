use Rattle.script.proofs.Keeps.{whole_lines}
use Rattle.script.proofs.line.lines_are_whole.Goals as goal

pub returns : goal.returns
returns c = whole_lines
