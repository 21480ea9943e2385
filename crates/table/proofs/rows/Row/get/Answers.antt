use Rattle.std.proofs.Common.{sym, arith}
use Rattle.std.proofs.lemmas.List.{get_or_past}
use Rattle.table.proofs.rows.Row.get.Goals as goal

pub returns-else-asset-lt-ASSETS : goal.returns-else-asset-lt-ASSETS
returns-else-asset-lt-ASSETS c = sym (get_or_past c.args.self.now.cells c.args.asset 0 (omega arith))
