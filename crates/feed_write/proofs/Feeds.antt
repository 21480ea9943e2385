-- A whole feed, written entry by entry. Assumes nothing.
use Rattle.std.proofs.Common.{◌≡◌, ℕ, ◌+◌, ◌<◌, List, [], ◌++◌, map, length, get_or, take, drop, Ok, sym, ap, ◌∙◌, subst, arith}
use Rattle.std.specs.List.{All, flat_map}
use Rattle.std.proofs.lemmas.List.{map_more, flat_map_more, take_at}
use Rattle.std.proofs.lemmas.List.Elements.{All-push}
use Rattle.feed.specs.declared.entry.Entry.{Entry}
use Rattle.feed.specs.Format.{Told, listed}
use Rattle.feed.specs.Shown.{told}
use Rattle.feed_write.specs.Written.{bytes, feed_bytes, placed, Wrote, WellFormed}
use Rattle.feed_write.proofs.Back.{round_trip}

module _ (es : List Entry) (i : ℕ) (d : Entry) (l : i < length es) where
  pub joined_next : flat_map bytes (map told (take i es)) ++ bytes (told (get_or es i d)) ≡ flat_map bytes (map told (take (i + 1) es))
  joined_next = flat_map_more bytes [] (map told (take i es)) (told (get_or es i d)) ∙ ap (flat_map bytes) (sym (map_more told es i d l))

  pub formed_next : All WellFormed (map told (take i es)) → WellFormed (told (get_or es i d)) → All WellFormed (map told (take (i + 1) es))
  formed_next a w = subst (All WellFormed) (sym (map_more told es i d l)) (All-push WellFormed (map told (take i es)) (told (get_or es i d)) a w)

-- a feed was written over the front
module _ (xs ys : List ℕ) (n : ℕ) (ts : List Told) (w : Wrote xs 0 (feed_bytes ts) ys n) where
  front : take n ys ≡ feed_bytes ts
  front =
      ap (λ zs. take n zs) w.after
      ∙ take_at (feed_bytes ts) (drop (0 + length (feed_bytes ts)) xs) n (let e = w.ends in omega arith)

  pub reads_back : All WellFormed ts → listed (take n ys) ≡ Ok (placed 5 ts)
  reads_back a = ap listed front ∙ round_trip ts a
