use Rattle.std.proofs.Common.{ap, ◌∙◌}
use Rattle.feed.specs.Format.{judged, list_from}
use Rattle.feed.proofs.Turns.{past_entry, judged_ahead}
use Rattle.feed.proofs.feed.RawFeed.check.Goals as goal

pub loop-preserved : goal.loop-preserved
loop-preserved c =
    let i = c.loop.invariant in
    let h = rw (i.0, c.in-Some.is) at c.in_ok-entry.ensures.step.2 in
    (c.entry.ensures.step.1 ∙ i.0, i.1 ∙ ap judged (past_entry _ _ _ _ h) ∙ judged_ahead _ (list_from _ c.entry.new.self.place))
