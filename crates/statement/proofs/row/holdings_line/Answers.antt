use Rattle.std.proofs.Common.{◌≡◌, ◌-◌, string_bytes, ap, ◌∙◌, rules, arith}
use Rattle.desk.specs.Passed.{state_of}
use Rattle.statement.specs.Rows.{settled_amount, escrowed_amount, guarantee_text, member_text, row_text}
use Rattle.statement.proofs.Rowing.{made_as}
use Rattle.statement.proofs.row.holdings_line.Goals as goal

pub returns : goal.returns
returns g c good =
    let h = c.args.house.now in
    let s = state_of h.figures (g.B.Book.ledger h.book) in
    let a = settled_amount h.refusal s c.args.member in
    let all : c.args.assets - 0 ≡ c.args.assets = omega arith in
    let settled = c.as_str-2.ensures.value ∙ (c.in_ok-settled.ensures a (λ place n q. search rules) ∙ ap (row_text a 0) all) in
    let escrowed = c.as_str.ensures.value ∙ c.in_ok-escrowed.ensures (escrowed_amount h.refusal s c.args.member) (λ place n q. search rules) in
    let guarantee = c.as_str-3.ensures.value ∙ c.in_ok-guarantee.ensures in
    made_as string_bytes c.member_text.result _ _ c.member_text.ensures
    (λ i. member_text c.args.member (settled i)
    ((guarantee ∙ (λ k. guarantee_text (c.cash_of-pledged.ensures good k) (c.cash_of-contributed.ensures good k) (escrowed k))) i))
