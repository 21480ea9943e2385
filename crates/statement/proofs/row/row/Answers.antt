use Rattle.std.proofs.Common.{refl, ap, ◌∙◌, arith}
use Rattle.std.proofs.lemmas.Slice.{pushed}
use Rattle.statement.specs.Rows.{row_text}
use Rattle.statement.proofs.Rowing.{ended, one_more}
use Rattle.statement.proofs.row.row.Goals as goal

pub loop-place-preserved : goal.loop-place-preserved
loop-place-preserved g c = (
  omega arith,
  λ a h.
      pushed c.as_str.result.now refl c.in_ok-push_str.was c.push_str.ensures.bytes
      ∙ one_more a c.args.from c.loop-place.place c.amount.result _ _
      (omega arith) (h _ _ c.amount.ensures) (c.loop-place.invariant.1 a h) (c.as_str.ensures.value ∙ c.in_ok-word.ensures.ok),
)

pub returns : goal.returns
returns g c a h =
    c.loop-place.invariant.1 a h ∙ ap (row_text a c.args.from) (ended _ _ _ c.loop-place.invariant.0 (omega arith))
