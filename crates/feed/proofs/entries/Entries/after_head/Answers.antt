use Rattle.std.proofs.Common.{length, ap, arith}
use Rattle.feed.proofs.Turns.{few}
use Rattle.feed.proofs.entries.Entries.after_head.Goals as goal

pub returns-clause-bound : goal.returns-clause-bound
returns-clause-bound c =
    let bs = c.head.new.self.bytes.now in
    omega (arith, few bs (length bs) c.head.new.self.place, ap length c.in-Ok.ensures.1)
