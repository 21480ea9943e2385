use Rattle.std.proofs.Common.{◌≡◌, length, ap, subst, arith}
use Rattle.feed_write.specs.Written.{word, Wrote}
use Rattle.feed_write.proofs.Sizes.{length_letters, trade_room, trade_parts, close_parts, close_room}
use Rattle.feed_write.proofs.Overs.{wrote_more}
use Rattle.feed_write.proofs.write.put_entry.Goals as goal

pub returns-in-Trade-clause-wrote : goal.returns-in-Trade-clause-wrote
returns-in-Trade-clause-wrote c =
    let t = c.in-Trade in
    let xs = c.args.out.now in
    let p = c.args.place in
    let room = trade_room t.is p (length xs) c.requires.room in
    let quantity : c.to_be_bytes.result ≡ word t.quantity = c.to_be_bytes.ensures in
    let price : c.to_be_bytes-in-Trade.result ≡ word t.price = c.to_be_bytes-in-Trade.ensures in
    let k = ap length quantity in
    let m = length_letters t.buyer_flag in
    let n = length_letters t.seller_flag in
    let w₂ = wrote_more xs p _ _ _ _ _ _ c.put-at.ensures c.put-at-in-Trade.ensures (omega arith) in
    let w₃ = wrote_more xs p _ _ _ _ _ _ w₂ c.put-at-in-Trade-2.ensures (omega arith) in
    let w₄ = wrote_more xs p _ _ _ _ _ _ w₃ c.put_flag-at.ensures (omega arith) in
    let w₅ = wrote_more xs p _ _ _ _ _ _ w₄ c.put-at-in-Trade-3.ensures (omega arith) in
    let w₆ = wrote_more xs p _ _ _ _ _ _ w₅ c.put_flag-at-in-Trade.ensures (omega arith) in
    let w₇ = wrote_more xs p _ _ _ _ _ _ w₆ c.put-at-in-Trade-4.ensures (omega arith) in
    let w₈ = wrote_more xs p _ _ _ _ _ _ w₇ c.put-at-in-Trade-5.ensures (omega arith) in
    let w₉ = wrote_more xs p _ _ _ _ _ _ w₈ c.put.ensures (omega arith) in
    subst (λ w. Wrote xs p w c.put.new.out c.put.result) (trade_parts t.is _ _ quantity price) w₉

pub returns-in-Close-clause-wrote : goal.returns-in-Close-clause-wrote
returns-in-Close-clause-wrote c =
    let t = c.in-Close in
    let xs = c.args.out.now in
    let p = c.args.place in
    let price : c.to_be_bytes-in-Close.result ≡ word t.price = c.to_be_bytes-in-Close.ensures in
    let room = close_room t.is p (length xs) c.requires.room in
    let w = wrote_more xs p _ _ _ _ _ _ c.put-at-in-Close.ensures c.put-in-Close.ensures (omega (arith, c.put-at-in-Close.ensures.ends)) in
    subst (λ w. Wrote xs p w c.put-in-Close.new.out c.put-in-Close.result) (close_parts t.is _ price) w
