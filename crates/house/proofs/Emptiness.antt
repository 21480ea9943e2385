-- Books of which every balance is 0, and houses over them.
use Rattle.std.proofs.Common.{◌≡◌, ℕ, ◌+◌, ◌*◌, ◌<◌, ◌≤◌, Bool, true, false, cond, not, ◌&&◌, eqb, sym, refl, ap, ⊎_elim, arith}
use mathlib.Core.Path.{fun_ext}
use Rattle.std.proofs.lemmas.Bool.{ne_eqb, eqb-true, eqb-false, cases_lt, and_parts, not-false, ltb-true, leb-true, both_ways}
use Rattle.book.specs.Ledger.{Ledger, Sound, sum_to}
use Rattle.book.proofs.Sums.{term_within_sum, sum_more}
use Rattle.rules.specs.Faults.{accepted, refused, house_layer, is_accepted}
use Rattle.rules.specs.Limits.{most_members, most_securities}
use Rattle.rules.specs.State.{opened_figures}
use Rattle.rules.specs.Events.{book_sum, open_answer, suits}
use Rattle.rules.specs.Fit.{Fit}
use Rattle.rules.proofs.Fits.{bounds_kept}
use Rattle.house.specs.Opened.{Opened, bad_counts}

pub not_empty : (n : ℕ) (f : ℕ → ℕ) (a : ℕ) → a < n → 0 < f a → false ≡ eqb (sum_to n f) 0
not_empty n f a l h = sym (ne_eqb (sum_to n f) 0 (λ e. let t = term_within_sum n f a l in omega arith))

pub still_empty : (n : ℕ) (f : ℕ → ℕ) → sum_to n f ≡ 0 → f n ≤ 0 → sum_to (n + 1) f ≡ 0
still_empty n f e h = let m = sum_more n f in omega arith

-- A number that is 0, or not, told by a test.
pub some_held : (n : ℕ) → false ≡ eqb n 0 → 0 < n
some_held n e = above (eqb-false n 0 (sym e))
  where
    above : (n ≡ 0 → ⊥) → 0 < n
    above h = omega arith

pub none_held : (n : ℕ) → true ≡ eqb n 0 → n ≤ 0
none_held n e = let h = eqb-true n 0 (sym e) in omega arith

-- Counts that are not refused are in range.
in_range : (m s : ℕ) → bad_counts m s ≡ false → ((0 < m) × (m ≤ most_members)) × ((0 < s) × (s ≤ most_securities))
in_range m s e =
    let p = and_parts _ _ (not-false _ e) in
    let a = and_parts _ _ p.0 in
    let b = and_parts _ _ p.1 in
    ((ltb-true _ _ a.0, leb-true _ _ a.1), (ltb-true _ _ b.0, leb-true _ _ b.1))

-- The figures of a house as it is opened are within their bounds.
pub opened_fit : (m s : ℕ) → bad_counts m s ≡ false → Fit (opened_figures m s)
opened_fit m s e = let r = in_range m s e in bounds_kept.0 m s r.0.0 r.0.1 r.1.0 r.1.1

-- No balance of a sound book whose balances add to 0 is above 0.
empty_held : (b : Ledger) → Sound b → book_sum b ≡ 0 → b.held ≡ (λ a t. 0)
empty_held b sound e = fun_ext (λ a. fun_ext (λ t.
    ⊎_elim
    (λ (l : a < b.accounts).
    ⊎_elim
    (λ (k : t < b.assets).
    let p = term_within_sum b.accounts (λ a. sum_to b.assets (λ t. b.held a t)) a l in
    let q = term_within_sum b.assets (λ t. b.held a t) t k in
    within _ _ _ p q e)
    (λ k. sound.no_asset a t k) (cases_lt t b.assets))
    (λ l. sound.no_account a t l) (cases_lt a b.accounts)))
  where
    within : (x y z : ℕ) → y ≤ z → x ≤ y → z ≡ 0 → x ≡ 0
    within x y z p q e = omega arith

-- An opening that is accepted: the counts are in range, and the book suits.
accepted_both : (x y : Bool) → accepted ≡ cond x (refused house_layer 19) (cond y (refused house_layer 18) accepted) → (x ≡ false) × (y ≡ false)
accepted_both true y e = absurd (both_ways false refl (ap is_accepted (sym e)))
accepted_both false true e = absurd (both_ways false refl (ap is_accepted (sym e)))
accepted_both false false e = (refl, refl)

pub opens : (b : Ledger) (m s : ℕ) → Sound b → accepted ≡ open_answer b m s → Opened b m s (opened_figures m s)
opens b m s sound e = record {
  state = λ i. record { figures = opened_figures m s; accounts = accounts i; assets = assets i; held = empty_held b sound nothing i };
  counted = record { accounts = accounts; assets = assets };
}
  where
    fits : suits b m s ≡ true
    fits = not-false _ (accepted_both (bad_counts m s) (not (suits b m s)) e).1

    accounts : b.accounts ≡ 3 * m + 3
    accounts = eqb-true _ _ (and_parts _ _ fits).0

    rest : (eqb b.assets (s + 1) && eqb (book_sum b) 0) ≡ true
    rest = (and_parts (eqb b.accounts (3 * m + 3)) _ fits).1

    assets : b.assets ≡ s + 1
    assets = eqb-true _ _ (and_parts _ _ rest).0

    nothing : book_sum b ≡ 0
    nothing = eqb-true _ _ (and_parts (eqb b.assets (s + 1)) _ rest).1
