use Rattle.std.proofs.Common.{length, Some, Ok, sym, ap, ◌∙◌, arith}
use Rattle.feed.specs.Shown.{told}
use Rattle.feed_write.specs.Written.{bytes, entry_end}
use Rattle.feed_write.proofs.Back.{entry_reads}
use Rattle.feed_write.proofs.Ends.{some_end, fitted}
use Rattle.feed_write.proofs.Overs.{wrote_stands}
use Rattle.feed_write.proofs.write.put_fitting.Goals as goal

pub returns-clause-read : goal.returns-clause-read
returns-clause-read c =
    let xs = c.args.out.now in
    let p = c.args.place in
    let e = told c.args.entry.now in
    let g = some_end (entry_end (length xs) p e) c.requires in
    let f = fitted (length xs) p e g.0 g.1 in
    let w = c.put_entry.ensures.wrote in
    let s = wrote_stands xs p (bytes e) c.put_entry.new.out c.put_entry.result w (omega (arith, f.room_for)) in
    entry_reads c.put_entry.new.out p e c.put_entry.ensures.formed s ∙ ap (λ q. Ok (Some e, q)) (sym w.ends)
