-- One entry after another: what is listed from a place on, by what is read there. Assumes nothing.
use Rattle.std.proofs.Common.{◌≡◌, ℕ, zero, suc, ◌+◌, ◌≤◌, true, List, [], ◌∷◌, length, is_ok, Some, None, Ok, Err, Option, Result, sym, refl, ap, ◌∙◌, arith}
use Rattle.feed.specs.declared.fault.FeedFault.{FeedFault}
use Rattle.feed.specs.Readings.{Read}
use Rattle.feed.specs.Format.{Told, entry, end, Listed, ahead, closed, onward, follow, list_at, list_from, judged, entries_of}
use Rattle.feed.proofs.Forward.{no_entry, enough}

pub judged_ahead : (e : ℕ × Told) (r : Listed) → judged (ahead e r) ≡ judged r
judged_ahead e (Ok es) = refl
judged_ahead e (Err f) = refl

none_closed : (r : Result (Unit {0}) FeedFault) → entries_of (closed r) ≡ []
none_closed (Ok u) = refl
none_closed (Err e) = refl

ok_ahead : (e : ℕ × Told) (r : Listed) → is_ok (ahead e r) ≡ is_ok r
ok_ahead e (Ok es) = refl
ok_ahead e (Err f) = refl

entries_ahead : (e : ℕ × Told) (r : Listed) → is_ok r ≡ true → entries_of (ahead e r) ≡ e ∷ entries_of r
entries_ahead e (Ok es) h = refl
entries_ahead e (Err f) h = let z : ◌≡◌ {A = ℕ} 0 1 = cc in absurd (omega arith)

few_ahead : (e : ℕ × Told) (r : Listed) (n : ℕ) → length (entries_of r) ≤ n → length (entries_of (ahead e r)) ≤ suc n
few_ahead e (Ok es) n h = omega arith
few_ahead e (Err f) n h = omega arith

module _ (bs : List ℕ) where
  few_onward : (f : ℕ → Listed) (n p : ℕ) (e : Option Told) (q : ℕ) → ((q : ℕ) → length (entries_of (f q)) ≤ n) → length (entries_of (onward f bs p e q)) ≤ suc n
  few_onward f n p (Some e) q h = few_ahead (p, e) (f q) n (h q)
  few_onward f n p None q h = rw (none_closed (end bs q)) (omega arith)

  few_follow : (f : ℕ → Listed) (n p : ℕ) (r : Read (Option Told)) → ((q : ℕ) → length (entries_of (f q)) ≤ n) → length (entries_of (follow f bs p r)) ≤ suc n
  few_follow f n p (Ok r) h = few_onward f n p r.0 r.1 h
  few_follow f n p (Err e) h = omega arith

  -- no more entries than the list has fuel
  pub few : (n p : ℕ) → length (entries_of (list_at n bs p)) ≤ n
  few zero p = omega arith
  few (suc n) p = few_follow (list_at n bs) n p (entry bs p) (few n)

  -- the list from p on is what is read at p, and then the list from there on
  turn_at : (n p : ℕ) → length bs ≤ n + p → list_at n bs p ≡ follow (list_at n bs) bs p (entry bs p)
  turn_at zero p h = sym (ap (follow (list_at 0 bs) bs p) (no_entry bs p (omega arith)))
  turn_at (suc n) p h = enough bs (suc n) (suc (suc n)) p (omega arith) (omega arith)

  turn : (p : ℕ) → list_from bs p ≡ follow (list_from bs) bs p (entry bs p)
  turn p = turn_at (length bs) p (omega arith)

  module _ (p : ℕ) where
    pub at_end : (q : ℕ) → entry bs p ≡ Ok (None, q) → list_from bs p ≡ closed (end bs q)
    at_end q h = turn p ∙ ap (follow (list_from bs) bs p) h

    pub past_entry : (e : Told) (q : ℕ) → entry bs p ≡ Ok (Some e, q) → list_from bs p ≡ ahead (p, e) (list_from bs q)
    past_entry e q h = turn p ∙ ap (follow (list_from bs) bs p) h

    module _ (e : Told) (q : ℕ) (h : entry bs p ≡ Ok (Some e, q)) (g : is_ok (list_from bs p) ≡ true) where
      pub still_good : is_ok (list_from bs q) ≡ true
      still_good = sym (ok_ahead (p, e) (list_from bs q)) ∙ sym (ap is_ok (past_entry e q h)) ∙ g

      pub one_less : entries_of (list_from bs p) ≡ (p, e) ∷ entries_of (list_from bs q)
      one_less = ap entries_of (past_entry e q h) ∙ entries_ahead (p, e) (list_from bs q) still_good
