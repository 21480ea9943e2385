use Rattle.std.proofs.Common.{rules, ◌≡◌, true, length, ◌∙◌, false-eqb}
use Rattle.script.specs.Numeral.{digits}
use Rattle.script.proofs.Values.{parsed, text_is, text_ok}
use Rattle.script.proofs.number.number.Goals as goal

pub returns-in_err-text : goal.returns-in_err-text
returns-in_err-text c =
    let some = false-eqb (length c.args.word.now) 0 c.if-is_empty.ensures in
    let all : digits c.args.word.now ≡ true = search rules in
    absurd (text_ok c.args.word.now some all _ _ (λ t. t.now) _ c.from_utf8.result c.in_err-text.field-0.0 c.from_utf8.ensures.cases (cc (c.in_err-text.was, c.or.ensures)))

pub returns : goal.returns
returns c =
    let w = c.args.word.now in
    let some = false-eqb (length w) 0 c.if-is_empty.ensures in
    let all : digits w ≡ true = search rules in
    let same = text_is w some all _ _ (λ t. t.now) _ c.from_utf8.result c.in_ok-text.text c.from_utf8.ensures.cases c.in_ok-text.ensures in
    let p = rw same at c.parse.ensures.value.0 in
    c.or-2.ensures ∙ parsed w some all _ c.parse.result p
