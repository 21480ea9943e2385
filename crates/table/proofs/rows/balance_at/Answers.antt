use Rattle.std.proofs.Common.{sym, arith}
use Rattle.table.proofs.Cells.{cell_past}
use Rattle.table.proofs.rows.balance_at.Goals as goal

pub returns-else-account-lt-ACCOUNTS : goal.returns-else-account-lt-ACCOUNTS
returns-else-account-lt-ACCOUNTS c = sym (cell_past c.args.rows.now c.args.place.account c.args.place.asset (omega arith))
