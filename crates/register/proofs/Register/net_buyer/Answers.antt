use Rattle.std.proofs.Common.{sym, subst}
use Rattle.register.specs.declared.Register.{Register}
use Rattle.register.specs.Netting.{seller_key}
use Rattle.register.specs.Fits.{Tabled, Nettable}
use Rattle.register.proofs.Trades.{half_from, buyer_nettable, seller_nettable}
use Rattle.register.proofs.Register.net_buyer.Goals as goal

pub net_side-requires : goal.net_side-requires
net_side-requires c =
    let g = c.args.self.now in
    let d = c.args.deal in
    let table = subst Tabled c.self.view_is c.self.invariant.table in
    subst (Nettable g) (sym c.key.ensures) (buyer_nettable g d.due d.trade table c.requires.room c.requires.lines d.quantity d.price)

pub returns : goal.returns
returns c =
    let g = c.args.self.now in
    let d = c.args.deal in
    let table = subst Tabled c.self.view_is c.self.invariant.table in
    let e = half_from g d.due d.trade c.net_side.new.self c.key.result c.key.ensures c.net_side.ensures in
    let n = seller_nettable g d.due d.trade table c.requires.room c.requires.lines d.quantity d.price in
    record { filed = e; next = subst (λ (h : Register). Nettable h (seller_key d.due d.trade)) (sym e) n }
