-- Writes over a list, one after another. Assumes nothing.
use Rattle.std.proofs.Common.{◌≡◌, ℕ, ◌+◌, ◌≤◌, List, ◌++◌, length, take, drop, sym, refl, ap, ◌∙◌, arith}
use borrow.Rule.Slice.PartMut.{put_mid}
use Rattle.std.proofs.lemmas.List.{length-append, length-take-le, append_assoc, drop-drop, take_at, drop_at}
use Rattle.feed_write.specs.Written.{over, Wrote}
use Rattle.feed_write.proofs.Stands.{Stands}

pub over_from_put_mid : (p k : ℕ) (xs ys zs : List ℕ) → ys ≡ zs → k ≡ length zs → put_mid p k xs ys ≡ over xs p zs
over_from_put_mid p k xs ys zs e l =
    ap (λ w. take p xs ++ (w ++ drop k (drop p xs))) e
    ∙ ap (λ w. take p xs ++ (zs ++ w)) (drop-drop k p xs ∙ ap (λ n. drop (p + n) xs) l)

-- the second write begins where the first ends
module _ (xs : List ℕ) (p : ℕ) (v w : List ℕ) (h : p + length v ≤ length xs) where
  front : List ℕ
  front = take p xs ++ v

  rest : List ℕ
  rest = drop (p + length v) xs

  front_long : length front ≡ p + length v
  unfolding front
  front_long = length-append (take p xs) v ∙ ap (λ n. n + length v) (length-take-le p xs (omega arith))

  split : over xs p v ≡ front ++ rest
  unfolding front rest
  split = sym (append_assoc (take p xs) v (drop (p + length v) xs))

  taken : take (p + length v) (over xs p v) ≡ front
  taken = ap (take (p + length v)) split ∙ take_at front rest (p + length v) front_long

  dropped : drop (p + length v + length w) (over xs p v) ≡ drop (p + length (v ++ w)) xs
  unfolding rest
  dropped =
      sym (drop-drop (length w) (p + length v) (over xs p v))
      ∙ ap (drop (length w)) (ap (drop (p + length v)) split ∙ drop_at front rest (p + length v) front_long)
      ∙ drop-drop (length w) (p + length v) xs
      ∙ ap (λ n. drop n xs) (simp length-append (omega arith))

  pub over_over : over (over xs p v) (p + length v) w ≡ over xs p (v ++ w)
  unfolding front
  over_over =
      ap (λ l. l ++ (w ++ drop (p + length v + length w) (over xs p v))) taken
      ∙ ap (λ l. front ++ (w ++ l)) dropped
      ∙ append_assoc (take p xs) v (w ++ drop (p + length (v ++ w)) xs)
      ∙ ap (λ l. take p xs ++ l) (sym (append_assoc v w (drop (p + length (v ++ w)) xs)))

-- one part after another
pub wrote_more : (xs : List ℕ) (p : ℕ) (v : List ℕ) (ys : List ℕ) (q : ℕ) (w zs : List ℕ) (r : ℕ) → Wrote xs p v ys q → Wrote ys q w zs r → q ≤ length xs → Wrote xs p (v ++ w) zs r
wrote_more xs p v ys q w zs r g h l = record {
  after =
      h.after
      ∙ ap (λ l. over l q w) g.after
      ∙ ap (λ n. over (over xs p v) n w) g.ends
      ∙ over_over xs p v w (omega (arith, g.ends));
  ends = h.ends ∙ (let e : length (v ++ w) ≡ length v + length w = length-append v w in omega (arith, g.ends));
}

-- what was written stands there
pub wrote_stands : (xs : List ℕ) (p : ℕ) (w ys : List ℕ) (q : ℕ) → Wrote xs p w ys q → p ≤ length xs → Stands ys p w
wrote_stands xs p w ys q h l =
    ap (λ zs. take (length w) (drop p zs)) h.after
    ∙ ap (take (length w)) (drop_at (take p xs) (w ++ drop (p + length w) xs) p (length-take-le p xs l))
    ∙ take_at w (drop (p + length w) xs) (length w) refl
