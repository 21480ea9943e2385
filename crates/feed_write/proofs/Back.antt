-- What is read where the bytes of a field, an entry or a feed stand. Assumes nothing.
use Rattle.std.proofs.Common.{◌≡◌, ℕ, ◌+◌, ◌/◌, ◌%◌, ◌^◌, ◌<◌, ◌≤◌, List, [], ◌∷◌, ◌++◌, length, take, drop, Some, Ok, codes, sym, refl, ap, ◌∙◌, subst, zero-add, arith, le-ltb, le-leb}
use Rattle.feed.specs.Readings.{Read, then, field, number, high_first}
use Rattle.rank.specs.declared.key.Flag.{Flag}
use Rattle.rank.specs.declared.key.Flag.TheVariants.{LocalPrincipal, LocalClient, ForeignPrincipal, ForeignClient}
use Rattle.feed.specs.Format.{Told, trade, close, reference, flag, trade_fields, close_fields, entry, head, ahead, after_head, list_from}
use Rattle.feed.proofs.Turns.{past_entry, at_end}
use Rattle.feed_write.specs.Written.{word, letters, bytes, feed_bytes, placed, WellFormed, RoundTrip}
use Rattle.std.proofs.lemmas.List.{length-append, append_assoc, take_all}
use Rattle.std.proofs.lemmas.List.Elements.{All-head, All-tail}
use Rattle.std.specs.List.{All, flat_map}
use Rattle.feed_write.proofs.Stands.{Stands, within, front, back}

then_reads : {X Y : Type 0} {r : Read X} {x : X} {q : ℕ} {z : Read Y} (f : X → ℕ → Read Y) → r ≡ Ok (x, q) → f x q ≡ z → then r f ≡ z
then_reads f e h = ap (λ r. then r f) e ∙ h

word_back : (n : ℕ) → n < 2 ^ 32 → high_first 4 (word n) ≡ n
word_back n h =
    let a : n / 65536 ≡ n / 256 / 256 = omega arith in
    let b : n / 16777216 ≡ n / 65536 / 256 = omega arith in
    let c : n / 16777216 % 256 ≡ n / 16777216 = omega arith in
    omega arith

module _ (bs : List ℕ) where
  field_reads : (p n : ℕ) (w : List ℕ) → Stands bs p w → length w ≡ n → 0 < n → field n bs p ≡ Ok (w, p + n)
  field_reads p n w h e l =
      let r : p + n ≤ length bs = (let i = within bs p w h (omega arith) in omega arith) in
      let t : take n (drop p bs) ≡ w = ap (λ m. take m (drop p bs)) (sym e) ∙ h in
      rw (le-ltb (length bs) (p + n) r) (ap (λ x. Ok (x, p + n)) t)

  byte_reads : (p x : ℕ) → Stands bs p (x ∷ []) → number 1 bs p ≡ Ok (x, p + 1)
  byte_reads p x h = then_reads _ (field_reads p 1 (x ∷ []) h refl (omega arith)) (ap (λ n. Ok (n, p + 1)) (zero-add x))

  word_reads : (p x : ℕ) → x < 2 ^ 32 → Stands bs p (word x) → number 4 bs p ≡ Ok (x, p + 4)
  word_reads p x l h = then_reads _ (field_reads p 4 (word x) h refl (omega arith)) (ap (λ n. Ok (n, p + 4)) (word_back x l))

  flag_reads : (p : ℕ) (f : Flag) → Stands bs p (letters f) → flag bs p ≡ Ok (f, p + length (letters f))
  flag_reads p LocalPrincipal h = then_reads _ (field_reads p 2 (letters LocalPrincipal) h refl (omega arith)) refl
  flag_reads p LocalClient h = then_reads _ (field_reads p 2 (letters LocalClient) h refl (omega arith)) refl
  flag_reads p ForeignPrincipal h = then_reads _ (field_reads p 2 (letters ForeignPrincipal) h refl (omega arith)) refl
  flag_reads p ForeignClient h = then_reads _ (field_reads p 2 (letters ForeignClient) h refl (omega arith)) refl

  -- one field after another
  next : {X Y : Type 0} {r : Read X} {x : X} {y : Y} (p : ℕ) (v w : List ℕ) (f : X → ℕ → Read Y) → (Stands bs p v → r ≡ Ok (x, p + length v))
      → ((q : ℕ) → Stands bs q w → f x q ≡ Ok (y, q + length w)) → Stands bs p (v ++ w) → then r f ≡ Ok (y, p + length (v ++ w))
  next {y} p v w f k l h =
      let e : (p + length v) + length w ≡ p + length (v ++ w) = simp length-append (omega arith) in
      then_reads f (k (front bs p v w h)) (l (p + length v) (back bs p v w h) ∙ ap (λ n. Ok (y, n)) e)

  reference_reads : (p : ℕ) (r : List ℕ) → 1 ≤ length r → length r ≤ 16 → Stands bs p (length r ∷ r) → reference bs p ≡ Ok (r, p + length (length r ∷ r))
  reference_reads p r l m =
      next p (length r ∷ []) r _ (byte_reads p (length r))
      (λ q h. rw (le-leb 1 (length r) l, le-leb (length r) 16 m) (field_reads q (length r) r h refl l))

  close_reads : (p x c : ℕ) → c < 2 ^ 32 → Stands bs p (x ∷ word c) → close_fields bs p ≡ Ok (Some (close x c), p + length (x ∷ word c))
  close_reads p x c l = next p (x ∷ []) (word c) _ (byte_reads p x) (λ q h. then_reads _ (word_reads q c l h) refl)

  trade_reads : (p : ℕ) (r : List ℕ) (b : ℕ) (bf : Flag) (s : ℕ) (sf : Flag) (x q c : ℕ) → WellFormed (trade r b bf s sf x q c)
      → (let w = length r ∷ (r ++ (b ∷ (letters bf ++ (s ∷ (letters sf ++ (x ∷ (word q ++ word c))))))) in
      Stands bs p w → trade_fields bs p ≡ Ok (Some (trade r b bf s sf x q c), p + length w))
  trade_reads p r b bf s sf x q c w =
      next p (length r ∷ r) _ _ (reference_reads p r w.0 w.1) (λ p₁.
      next p₁ (b ∷ []) _ _ (byte_reads p₁ b) (λ p₂.
      next p₂ (letters bf) _ _ (flag_reads p₂ bf) (λ p₃.
      next p₃ (s ∷ []) _ _ (byte_reads p₃ s) (λ p₄.
      next p₄ (letters sf) _ _ (flag_reads p₄ sf) (λ p₅.
      next p₅ (x ∷ []) _ _ (byte_reads p₅ x) (λ p₆.
      next p₆ (word q) (word c) _ (word_reads p₆ q w.5) (λ p₇ h.
      then_reads _ (word_reads p₇ c w.6 h) refl)))))))

  pub entry_reads : (p : ℕ) (e : Told) → WellFormed e → Stands bs p (bytes e) → entry bs p ≡ Ok (Some e, p + length (bytes e))
  entry_reads p (trade r b bf s sf x q c) w = next p (codes "T") _ _ (byte_reads p 84) (λ p₁. trade_reads p₁ r b bf s sf x q c w)
  entry_reads p (close x c) w = next p (codes "C") _ _ (byte_reads p 67) (λ p₁. close_reads p₁ x c w.1)

  list_reads : (p : ℕ) (es : List Told) → All WellFormed es → Stands bs p (flat_map bytes es ++ codes "Z") → p + length (flat_map bytes es ++ codes "Z") ≡ length bs
      → list_from bs p ≡ Ok (placed p es)
  list_reads p [] a h l = at_end bs p (p + 1) (then_reads _ (byte_reads p 90 h) refl) ∙ rw (le-ltb (p + 1) (length bs) (omega arith)) refl
  list_reads p (e ∷ es) a h l =
      let w : List ℕ = flat_map bytes es ++ codes "Z" in
      let together : flat_map bytes (e ∷ es) ++ codes "Z" ≡ bytes e ++ w = append_assoc (bytes e) (flat_map bytes es) (codes "Z") in
      let g : Stands bs p (bytes e ++ w) = subst (Stands bs p) together h in
      let m : (p + length (bytes e)) + length w ≡ length bs = omega (arith, ap length together, length-append (bytes e) w) in
      past_entry bs p e (p + length (bytes e)) (entry_reads p e (All-head WellFormed e es a) (front bs p (bytes e) w g))
      ∙ ap (ahead (p, e)) (list_reads (p + length (bytes e)) es (All-tail WellFormed e es a) (back bs p (bytes e) w g) m)

head_reads : (bs : List ℕ) → head (codes "TRF" ++ (0 ∷ 1 ∷ bs)) 0 ≡ Ok (tt, 5)
head_reads bs =
    let all = codes "TRF" ++ (0 ∷ 1 ∷ bs) in
    then_reads _ (field_reads all 0 3 (codes "TRF") refl refl (omega arith)) (then_reads _ (then_reads _ (field_reads all 3 2 (0 ∷ 1 ∷ []) refl refl (omega arith)) refl) refl)

pub round_trip : RoundTrip
round_trip es a =
    let rest = flat_map bytes es ++ codes "Z" in
    ap (after_head (feed_bytes es)) (head_reads rest) ∙ list_reads (feed_bytes es) 5 es a (take_all (length rest) rest (omega arith)) (omega arith)
