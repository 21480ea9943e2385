use Rattle.settle.proofs.Runs.{line_by_line}
use Rattle.settle.proofs.laws.scripts_go_by_lines.Goals as goal

pub returns : goal.returns
returns c = line_by_line
