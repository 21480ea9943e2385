use Rattle.table.proofs.Cells.{cell_none}
use Rattle.table.proofs.rows.empty_rows.Goals as goal

pub returns : goal.returns
returns c = cell_none 75 17
