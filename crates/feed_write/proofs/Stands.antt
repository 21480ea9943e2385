-- A list that stands in another at a place. Assumes nothing.
use Rattle.std.proofs.Common.{◌≡◌, ℕ, ◌+◌, ◌-◌, ◌<◌, ◌≤◌, min, List, ◌++◌, length, take, drop, sym, refl, ap, ◌∙◌, arith}
use Rattle.std.proofs.lemmas.List.{length-take, length-drop, length-append, take-take, take_at, drop_at, drop-take, drop-drop}

-- w stands in bs at p
abbrev pub Stands : List ℕ → ℕ → List ℕ → Type 0
Stands bs p w = take (length w) (drop p bs) ≡ w

module _ (bs : List ℕ) (p : ℕ) where
  pub within : (w : List ℕ) → Stands bs p w → 0 < length w → p + length w ≤ length bs
  within w h l =
      let e : min (length w) (length bs - p) ≡ length w = simp (length-take, length-drop) at (ap length h) in
      omega arith

  pub front : (v w : List ℕ) → Stands bs p (v ++ w) → Stands bs p v
  front v w h =
      let l : length v ≤ length (v ++ w) = simp length-append (omega arith) in
      sym (take-take (length v) (length (v ++ w)) (drop p bs) l) ∙ ap (take (length v)) h ∙ take_at v w (length v) refl

  pub back : (v w : List ℕ) → Stands bs p (v ++ w) → Stands bs (p + length v) w
  back v w h =
      ap (take (length w)) (sym (drop-drop (length v) p bs))
      ∙ sym (drop-take (length v) (length w) (drop p bs))
      ∙ ap (λ n. drop (length v) (take n (drop p bs))) (sym (length-append v w))
      ∙ ap (drop (length v)) h
      ∙ drop_at v w (length v) refl
