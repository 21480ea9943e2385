use Rattle.std.proofs.Common.{◌≡◌, ◌-◌, ap, ◌∙◌, rules, arith}
use Rattle.desk.specs.Passed.{state_of}
use Rattle.statement.specs.Rows.{own_amount, row_text}
use Rattle.statement.proofs.row.own_line.Goals as goal

pub returns : goal.returns
returns g c good =
    let h = c.args.house.now in
    let a = own_amount h.refusal (state_of h.figures (g.B.Book.ledger h.book)) c.args.own in
    let all : c.args.assets - 0 ≡ c.args.assets = omega arith in
    let amounts = c.in_ok-amounts.ensures a (λ place n q. search rules) ∙ ap (row_text a 0) all in
    search rules
