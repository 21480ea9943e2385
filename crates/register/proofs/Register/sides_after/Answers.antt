use Rattle.std.proofs.Common.{sym, ap, ◌∙◌, subst}
use Rattle.register.specs.declared.netting.Sides.{Sides}
use Rattle.register.specs.Fits.{Tabled, Sized}
use Rattle.register.proofs.Trades.{sized_line_of, sides_from, buyer_after, seller_after}
use Rattle.register.proofs.Register.sides_after.Goals as goal

pub netted_sides-requires : goal.netted_sides-requires
netted_sides-requires c =
    let g = c.args.self.now in
    record {
      buyer = subst (Sized 1) (sym c.line_or_blank.ensures) (sized_line_of g c.key-buyer.result c.requires.lines);
      seller = subst (Sized 1) (sym c.line_or_blank-2.ensures) (sized_line_of g c.key-seller.result c.requires.lines);
    }

pub returns : goal.returns
returns c =
    let g = c.args.self.now in
    let t = c.args.deal.trade in
    let d = c.args.deal.due in
    let table = subst Tabled c.self.view_is c.self.invariant.table in
    let e = sides_from g d t c.netted_sides.result c.key-buyer.result c.key-seller.result
    c.same_key.result c.line_or_blank.result c.line_or_blank-2.result
    c.key-buyer.ensures c.key-seller.ensures c.same_key.ensures c.line_or_blank.ensures c.line_or_blank-2.ensures
    c.netted_sides.ensures in
    record {
      buyer = ap (λ (s : Sides). s.buyer) e ∙ buyer_after g d t table c.requires.room;
      seller = ap (λ (s : Sides). s.seller) e ∙ seller_after g d t table c.requires.room;
    }
