use Rattle.std.proofs.Common.{rules, ◌≡◌, ℕ, Bor, get_or, subst, ◌∙◌, arith}
use Rattle.std.proofs.lemmas.Simd.{map-map}
use Rattle.rank.specs.declared.claim.Claim.{Claim}
use Rattle.rank.specs.Order.{Found}
use Rattle.rank.proofs.Kept.{better, line_of, found_kept, item_has, match_with, some_of}
use Rattle.rank.proofs.first.first_of.Goals as goal

pub returns : goal.returns
returns g c =
    let goes = g.R.Rank.goes c.args.rank.now c.args.settlement in
    let run = c.reduce.ensures.runs in
    let numbered = c.enumerate.ensures.runs run.0 run.0.seen run.1 in
    let plain = c.iter.ensures.runs numbered.1.0 numbered.1.0.seen in
    let whole = plain.4 (numbered.1.2.1 ∙ run.2) in
    subst (λ lines. Found goes lines c.map.result) (cc (map-map (λ (b : Bor Claim). b.now) (λ (x : ℕ × Bor Claim). x.1) run.0.items, numbered.1.2.0.1, whole))
    (found_kept goes (g.met.R.Rank.lawful c.args.rank.now c.args.settlement) run.0.items
    (λ k d l. item_has (λ x. x.0 ≡ k) (run.0.at k) (get_or run.0.items k d) (run.0.reads k d (omega (arith, run.0.long))) (numbered.0 k))
    c.reduce.result c.map.result
    (match_with c.reduce.result _ _ _ _ (λ e. omega (arith, run.0.long)) (λ y r. (r.1.0, r.1.1, r.1.2, r.1.3 (better line_of goes) (λ x y r f k. search rules))) run.3)
    (match_with c.reduce.result _ _ _ _ (λ e. e) (λ y r. some_of c.map.result _ y.0 (λ z p. search rules) r) c.map.ensures.cases))
