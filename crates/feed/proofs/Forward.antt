-- A reading never goes back, and an entry takes a byte at least. Assumes nothing.
use Rattle.std.proofs.Common.{◌≡◌, ℕ, zero, suc, ◌+◌, ◌≤◌, Bool, true, false, cond, ◌&&◌, ltb, leb, List, [], ◌∷◌, length, get_or, Some, None, Ok, Err, Option, sym, refl, ap, arith, lt-ltb}
use Rattle.feed.specs.declared.fault.FeedFault.{FeedFault}
use Rattle.feed.specs.declared.fault.FeedFault.TheVariants.{CutShort, FlagLetters, Kind}
use Rattle.feed.specs.Readings.{Read, Case, then, one_of, field, number}
use Rattle.feed.specs.Format.{Told, reference, flag, flags, kinds, trade_fields, close_fields, entry, Listed, ahead, onward, follow, list_at}

-- r ends at p or later
abbrev Past : {X : Type 0} → Read X → ℕ → Type 0
Past (Ok r) p = p ≤ r.1
Past (Err e) p = Unit {0}

then_past : {X Y : Type 0} (r : Read X) (f : X → ℕ → Read Y) (p : ℕ) → Past r p → ((x : X) (q : ℕ) → p ≤ q → Past (f x q) p) → Past (then r f) p
then_past (Ok r) f p h k = k r.0 r.1 h
then_past (Err e) f p h k = tt

cond_past : {X : Type 0} (b : Bool) (r s : Read X) (p : ℕ) → Past r p → Past s p → Past (cond b r s) p
cond_past true r s p h k = h
cond_past false r s p h k = k

module _ (bs : List ℕ) where
  abbrev EachPast : {X : Type 0} → List (Case X) → ℕ → ℕ → Type 0
  EachPast [] q p = Unit {0}
  EachPast (c ∷ cs) q p = Past (c.reading bs q) p × EachPast cs q p

  one_of_past : {X : Type 0} (e : FeedFault) (cs : List (Case X)) (q p : ℕ) → EachPast cs q p → Past (one_of e cs bs q) p
  one_of_past e [] q p h = tt
  one_of_past e (c ∷ cs) q p h = cond_past c.test _ _ p h.0 (one_of_past e cs q p h.1)

  field_past : (n p q : ℕ) → p ≤ q + n → Past (field n bs q) p
  field_past n p q h = cond_past (ltb (length bs) (q + n)) _ _ p tt h

  number_past : (n p q : ℕ) → p ≤ q + n → Past (number n bs q) p
  number_past n p q h = then_past (field n bs q) _ p (field_past n p q h) (λ _ s k. k)

  reference_past : (p q : ℕ) → p ≤ q → Past (reference bs q) p
  reference_past p q h =
      then_past (number 1 bs q) _ p (number_past 1 p q (omega arith))
      (λ n s k. then_past (cond (leb 1 n && leb n 16) _ _) _ p (cond_past (leb 1 n && leb n 16) _ _ p k tt) (λ _ t l. field_past n p t (omega arith)))

  flag_past : (p q : ℕ) → p ≤ q → Past (flag bs q) p
  flag_past p q h =
      then_past (field 2 bs q) _ p (field_past 2 p q (omega arith))
      (λ l s k. one_of_past FlagLetters (flags (get_or l 0 0) (get_or l 1 0)) s p (k, (k, (k, (k, tt)))))

  trade_past : (p q : ℕ) → p ≤ q → Past (trade_fields bs q) p
  trade_past p q h =
      then_past (reference bs q) _ p (reference_past p q h) (λ _ q₁ h₁. then_past (number 1 bs q₁) _ p (number_past 1 p q₁ (omega arith))
      (λ _ q₂ h₂. then_past (flag bs q₂) _ p (flag_past p q₂ h₂) (λ _ q₃ h₃. then_past (number 1 bs q₃) _ p (number_past 1 p q₃ (omega arith))
      (λ _ q₄ h₄. then_past (flag bs q₄) _ p (flag_past p q₄ h₄) (λ _ q₅ h₅. then_past (number 1 bs q₅) _ p (number_past 1 p q₅ (omega arith))
      (λ _ q₆ h₆. then_past (number 4 bs q₆) _ p (number_past 4 p q₆ (omega arith)) (λ _ q₇ h₇. then_past (number 4 bs q₇) _ p (number_past 4 p q₇ (omega arith)) (λ _ q₈ h₈. h₈))))))))

  close_past : (p q : ℕ) → p ≤ q → Past (close_fields bs q) p
  close_past p q h =
      then_past (number 1 bs q) _ p (number_past 1 p q (omega arith)) (λ _ s k. then_past (number 4 bs s) _ p (number_past 4 p s (omega arith)) (λ _ t l. l))

  pub entry_past : (p : ℕ) → Past (entry bs p) (p + 1)
  entry_past p =
      then_past (number 1 bs p) _ (p + 1) (number_past 1 (p + 1) p (omega arith))
      (λ k q h. one_of_past Kind (kinds k) q (p + 1) (trade_past (p + 1) q h, (close_past (p + 1) q h, (h, tt))))

  pub no_entry : (p : ℕ) → length bs ≤ p → entry bs p ≡ Err CutShort
  no_entry p h = rw (lt-ltb (length bs) (p + 1) (omega arith)) refl

  same_onward : (f g : ℕ → Listed) (p : ℕ) (e : Option Told) (q : ℕ) → f q ≡ g q → onward f bs p e q ≡ onward g bs p e q
  same_onward f g p (Some e) q h = ap (ahead (p, e)) h
  same_onward f g p None q h = refl

  same_follow : (f g : ℕ → Listed) (p : ℕ) (r : Read (Option Told)) → Past r (p + 1) → ((q : ℕ) → p + 1 ≤ q → f q ≡ g q) → follow f bs p r ≡ follow g bs p r
  same_follow f g p (Err e) o k = refl
  same_follow f g p (Ok r) o k = same_onward f g p r.0 r.1 (k r.1 o)

  -- two lists with fuel enough are the same
  pub enough : (m n p : ℕ) → length bs ≤ m + p → length bs ≤ n + p → list_at m bs p ≡ list_at n bs p
  enough zero zero p h k = refl
  enough zero (suc n) p h k = sym (ap (follow (list_at n bs) bs p) (no_entry p (omega arith)))
  enough (suc m) zero p h k = ap (follow (list_at m bs) bs p) (no_entry p (omega arith))
  enough (suc m) (suc n) p h k = same_follow (list_at m bs) (list_at n bs) p (entry bs p) (entry_past p) (λ q l. enough m n q (omega arith) (omega arith))
