use Rattle.std.proofs.Common.{◌≡◌, ◌-◌, ap, rules, arith, string_bytes}
use Rattle.statement.specs.Rows.{row_text}
use Rattle.statement.proofs.Rowing.{made_as}
use Rattle.statement.proofs.account.balances.Goals as goal

pub returns : goal.returns
returns g c good =
    let all : c.assets.result - 0 ≡ (g.B.Book.ledger c.args.book.now).assets = omega (arith, c.assets.ensures) in
    let a = (g.B.Book.ledger c.args.book.now).held c.args.account in
    made_as string_bytes c.row.result _ _ (c.row.ensures a (λ place n q. search rules)) (ap (row_text a 0) all)
