use Rattle.feed.proofs.Flags.{flag_said}
use Rattle.feed.proofs.reader.Reader.flag.Goals as goal

pub returns : goal.returns
returns c =
    let letters = c.in_ok-letters.letters.now in
    let said = flag_said letters c.args.self.now.bytes.now c.field.new.self.place c.try_from.result c.in_ok-letters.ensures.whole c.try_from.ensures in
    (c.in_ok-letters.ensures.step.0, c.in_ok-letters.ensures.step.1, rw (c.in_ok-letters.ensures.step.2, c.or.ensures) said)
