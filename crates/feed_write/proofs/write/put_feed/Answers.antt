use Rattle.std.proofs.Common.{◌+◌, ◌∷◌, [], map, length, drop, sym, ap, ◌∙◌, subst, arith}
use Rattle.std.specs.List.{All, flat_map}
use Rattle.std.proofs.lemmas.List.{take_all}
use Rattle.feed.specs.Shown.{told}
use Rattle.feed_write.specs.Written.{bytes, feed_end, list_end, Wrote, WellFormed}
use Rattle.feed_write.proofs.Ends.{some_end, left_end, begins_within, next_at, last_room}
use Rattle.feed_write.proofs.Feeds.{joined_next, formed_next, reads_back}
use Rattle.feed_write.proofs.Overs.{wrote_more}
use Rattle.feed_write.proofs.write.put_feed.Goals as goal

pub loop-entry-preserved : goal.loop-entry-preserved
loop-entry-preserved c =
    let es = c.args.entries.now in
    let i = c.loop-entry.entry-index in
    let room = length c.put-place.new.out in
    let g = some_end (feed_end (length c.args.out.now) (map told es)) c.requires in
    let left = left_end (length c.args.out.now) room g.0 c.put-place.result c.loop-entry.place i es g.1 (omega arith) c.put-place.ensures.ends c.loop-entry.invariant.1 in
    let w = c.put_entry-place.ensures.wrote in
    let l = begins_within room c.loop-entry.place _ (map told (drop i es)) left in (
      subst (λ v. Wrote c.put-place.new.out c.put-place.result v c.put_entry-place.new.out c.put_entry-place.result)
          (joined_next es i _ c.loop-entry-test.true)
          (wrote_more c.put-place.new.out c.put-place.result _ c.loop-entry.out c.loop-entry.place _ _ _ c.loop-entry.invariant.0 w l),
      c.loop-entry.invariant.1 ∙ next_at room c.loop-entry.place es i _ _ c.loop-entry-test.true left ∙ ap (λ q. list_end room q (map told (drop (i + 1) es))) (sym w.ends),
      formed_next es i _ c.loop-entry-test.true c.loop-entry.invariant.2 c.put_entry-place.ensures.formed,
    )

pub returns-clause-wrote : goal.returns-clause-wrote
returns-clause-wrote c =
    let es = c.args.entries.now in
    let i = c.loop-entry.entry-index in
    let xs = c.args.out.now in
    let room = length c.put-place.new.out in
    let g = some_end (feed_end (length xs) (map told es)) c.requires in
    let left = left_end (length xs) room g.0 c.put-place.result c.loop-entry.place i es g.1 (omega arith) c.put-place.ensures.ends c.loop-entry.invariant.1 in
    let r = last_room room c.loop-entry.place es i _ c.loop-entry-test.false left in
    let every = take_all i es c.loop-entry-test.false in
    let w₁ = subst (λ ts. Wrote c.put-place.new.out c.put-place.result (flat_map bytes (map told ts)) c.loop-entry.out c.loop-entry.place) every c.loop-entry.invariant.0 in
    let w₂ = wrote_more xs 0 _ _ _ (flat_map bytes (map told es)) _ _ c.put-place.ensures w₁ (omega (arith, c.put-place.ensures.ends, r.1)) in
    wrote_more xs 0 _ _ _ (90 ∷ []) _ _ w₂ c.put.ensures (omega (arith, r.1))

pub returns-clause-read : goal.returns-clause-read
returns-clause-read c =
    let es = c.args.entries.now in
    let every = take_all c.loop-entry.entry-index es c.loop-entry-test.false in
    let formed = subst (λ ts. All WellFormed (map told ts)) every c.loop-entry.invariant.2 in
    reads_back c.args.out.now c.put.new.out c.put.result (map told es) (returns-clause-wrote c) formed
