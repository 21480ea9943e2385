use Rattle.std.proofs.Common.{◌+◌, ltb, subst, ap, ◌∙◌, rules}
use Rattle.rank.specs.declared.key.Key.{Key}
use Rattle.register.specs.declared.Register.{Register}
use Rattle.register.specs.Limits.{register_places}
use Rattle.register.specs.Netting.{buyer_key}
use Rattle.register.specs.Sides.{new_lines}
use Rattle.register.specs.Fits.{Tabled}
use Rattle.register.proofs.Trades.{new_few, count_lacks}
use Rattle.register.proofs.Register.count_after.Goals as goal

pub overflow_add-result : goal.overflow_add-result
overflow_add-result c =
    let a = new_few c.args.self.now c.key.result c.key-2.result in
    let b = c.self.invariant.table.few in
    search rules

pub returns : goal.returns
returns c =
    let g = c.args.self.now in
    ap (λ (h : Register). ltb register_places (h.count + c.new_lines.result)) c.self.view_is
    ∙ (ap (λ n. ltb register_places (g.count + n)) c.new_lines.ensures
    ∙ (ap (λ (k : Key). ltb register_places (g.count + new_lines g k c.key-2.result)) c.key.ensures
    ∙ (ap (λ (k : Key). ltb register_places (g.count + new_lines g (buyer_key c.args.due c.args.trade) k)) c.key-2.ensures
    ∙ count_lacks g c.args.due c.args.trade (subst Tabled c.self.view_is c.self.invariant.table))))
