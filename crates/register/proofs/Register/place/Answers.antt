use Rattle.std.proofs.Common.{ℕ, ◌<◌, Option, ap, ◌∙◌, position, sym, subst}
use Rattle.std.specs.Option.{ForSome}
use Rattle.register.specs.declared.line.Line.{Line}
use Rattle.register.specs.Limits.{register_places}
use Rattle.register.specs.Netting.{same_key}
use Rattle.register.proofs.Listed.{position_listed, place_within}
use Rattle.register.proofs.Register.place.Goals as goal

pub returns : goal.returns
returns c =
    let g = c.args.self.now in
    let at = c.position_of.ensures
    ∙ (ap (position (λ (l : Line). same_key l.claim.key c.args.key)) c.lines.ensures.lines ∙ position_listed g c.args.key c.lines.ensures.table) in
    record { place = at; within = subst (λ (o : Option ℕ). ForSome o (λ i. i < register_places)) (sym at) (place_within g c.args.key c.lines.ensures.table) }
