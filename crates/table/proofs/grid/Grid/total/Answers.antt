use Rattle.std.proofs.Common.{◌∙◌, get_or, rules, tests}
use Rattle.std.proofs.lemmas.Iterator.{YieldsList-from_slice, YieldsList-from_take, YieldsList-from_map}
use Rattle.std.proofs.lemmas.Iterator.Consumers.{YieldsList-at, fold_from_yields_List}
use Rattle.table.proofs.Cells.{saturating, saturated_of_rows}
use Rattle.table.proofs.grid.Grid.total.Goals as goal

pub returns : goal.returns
returns c =
    let b = c.args.self.now in
    let s = c.args.asset in
    let folded = fold_from_yields_List _ saturating 0 c.fold.result c.fold.ensures.ran
    (YieldsList-from_map _ (λ r. get_or r.cells s 0) (YieldsList-at c.map.ensures.source (YieldsList-from_take b.accounts (YieldsList-at c.take-used.ensures.source (YieldsList-from_slice b.rows cc)) (cc))) c.map.ensures.closure (λ x r q k. search (rules, tests)))
    (λ a x r q k. search (rules, tests)) in
    folded ∙ saturated_of_rows b.rows s b.accounts
