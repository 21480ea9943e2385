-- How long what is written is. Assumes nothing.
use Rattle.std.proofs.Common.{◌≡◌, ℕ, ◌+◌, ◌≤◌, List, [], ◌∷◌, ◌++◌, length, refl, ap, arith, Bor}
use Rattle.std.proofs.lemmas.List.{length-append, append_assoc}
use Rattle.rank.specs.declared.key.Flag.{Flag}
use Rattle.rank.specs.declared.key.Flag.TheVariants.{LocalPrincipal, LocalClient, ForeignPrincipal, ForeignClient}
use Rattle.feed.specs.declared.entry.Entry.{Entry}
use Rattle.feed.specs.declared.entry.Entry.TheVariants.{Trade, Close}
use Rattle.feed.specs.Shown.{told}
use Rattle.feed.specs.Format.{trade}
use Rattle.feed_write.specs.Written.{letters, bytes, word}

pub length_letters : (f : Flag) → length (letters f) ≡ 2
length_letters LocalPrincipal = refl
length_letters LocalClient = refl
length_letters ForeignPrincipal = refl
length_letters ForeignClient = refl

pub length_trade : (r : List ℕ) (b : ℕ) (bf : Flag) (s : ℕ) (sf : Flag) (x q c : ℕ) → length (bytes (trade r b bf s sf x q c)) ≡ 17 + length r
length_trade r b bf s sf x q c = simp (length-append, length_letters) (omega arith)

-- an entry that is a trade
module _ {e : Entry} {r : Bor (List ℕ)} {b : ℕ} {bf : Flag} {s : ℕ} {sf : Flag} {x q c : ℕ} (is : e ≡ Trade r b bf s sf x q c) where
  -- its parts, as they are written
  pub trade_parts : (Q C : List ℕ) → Q ≡ word q → C ≡ word c
      → ((((((((84 ∷ length r.now ∷ []) ++ r.now) ++ (b ∷ [])) ++ letters bf) ++ (s ∷ [])) ++ letters sf) ++ (x ∷ [])) ++ Q) ++ C ≡ bytes (told e)
  trade_parts Q C i j =
      let together : ((((((((84 ∷ length r.now ∷ []) ++ r.now) ++ (b ∷ [])) ++ letters bf) ++ (s ∷ [])) ++ letters sf) ++ (x ∷ [])) ++ word q) ++ word c ≡ bytes (trade r.now b bf s sf x q c) = simp append_assoc in
      let same = ap (λ e. bytes (told e)) is in
      cc

  -- the room that it has is room for its parts
  pub trade_room : (p n : ℕ) → p + length (bytes (told e)) ≤ n → p + (17 + length r.now) ≤ n
  trade_room p n room = omega (arith, length_trade r.now b bf s sf x q c, ap (λ e. length (bytes (told e))) is)

-- an entry that is a closing price
module _ {e : Entry} {x c : ℕ} (is : e ≡ Close x c) where
  pub close_parts : (C : List ℕ) → C ≡ word c → (67 ∷ x ∷ []) ++ C ≡ bytes (told e)
  close_parts C i = rw (is, i) refl

  pub close_room : (p n : ℕ) → p + length (bytes (told e)) ≤ n → p + 6 ≤ n
  close_room p n room = omega (arith, ap (λ e. length (bytes (told e))) is)
