use Rattle.std.proofs.Common.{◌≡◌, false, sym, ◌∙◌, subst}
use Rattle.std.proofs.lemmas.Bool.{ltb-false}
use Rattle.register.specs.Limits.{register_places}
use Rattle.register.specs.Netting.{trade_filed, trade_too_large}
use Rattle.register.specs.Fits.{AllSized, Room}
use Rattle.register.proofs.Trades.{trade_sized}
use Rattle.register.proofs.tests.traded.Goals as goal

pub returns : goal.returns
returns c =
    let g = c.args.register.now in
    let d = c.args.due in
    let t = c.args.trade in
    let room : Room g d t = ltb-false register_places (trade_filed g d t).count (sym c.lacks_place.ensures.lacks ∙ c.if-lacks_place.false) in
    let small : trade_too_large g d t ≡ false = sym c.trade_too_large.ensures ∙ c.if-trade_too_large.false in
    subst AllSized (sym c.net.ensures) (trade_sized g d t c.lacks_place.ensures.table room c.requires small)
