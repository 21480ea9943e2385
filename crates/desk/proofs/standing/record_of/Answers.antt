use Rattle.std.proofs.Common.{◌+◌, ◌<◌, ◌≤◌, unsigned_abs, subst, sym, ap, ◌∙◌, length, get_or, arith}
use Rattle.std.proofs.lemmas.List.{get_or-map, length-map}
use Rattle.rules.specs.declared.figures.Figures.{Figures}
use Rattle.rules.specs.declared.figures.Seat.{Seat}
use Rattle.rules.specs.declared.figures.Member.{Member}
use Rattle.rules.specs.Fit.{Fit, MemberFits, most_weight}
use Rattle.rules.specs.State.{no_member, member}
use Rattle.desk.proofs.standing.record_of.Goals as goal

pub returns : goal.returns
returns c =
    let m = c.args.m.number in
    let few = c.args.m.known in
    let fit = subst Fit c.f.view_is c.f.invariant in
    let xs = c.f.inside.seats in
    let long = c.f.invariant.bounds.shape.records in
    let there : m < length xs = let a = length-map xs (λ (x : Seat). x.member) in omega arith in
    let is = sym (ap (λ i. (get_or xs i _).member) (sym c.from.ensures)) ∙ (sym (get_or-map (λ (x : Seat). x.member) xs m _ no_member there) ∙ ap (λ (f : Figures). member f m) c.f.view_is) in
    record {
      value = is;
      fits = subst MemberFits (sym is) (fit.bounds.members m (omega arith));
      within = subst (λ (r : Member). unsigned_abs r.position + r.advances ≤ most_weight) (sym is) (let w = fit.bounds.weights m (omega arith) in omega arith);
    }
