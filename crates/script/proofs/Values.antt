-- The number that digits write, as std's `parse` says it.
use Rattle.std.proofs.Common.{◌≡◌, ℕ, ◌+◌, ◌-◌, ◌*◌, ◌^◌, ◌<◌, ◌≤◌, true, List, [], ◌∷◌, length, Ok, Err, Result, sym, refl, ap, ◌∙◌, ⊎_elim, arith}
use Rattle.std.proofs.lemmas.Bool.{cases_lt, le-leb, lt-leb}
use Rattle.std.proofs.lemmas.Bool.Decides.{nat_tests}
use Rattle.std.proofs.lemmas.Fmt.{IsAscii-from_digits}
use Rattle.std.proofs.lemmas.Str.{IsUtf8-from_ascii, digit_value_digit}
use Rattle.std.specs.Char.{digit_value}
use Rattle.std.specs.Int.{IsInRange}
use Rattle.std.specs.Str.{IsUtf8}
use Rattle.std.specs.Result.{MatchResult, result_or}
use Rattle.std.specs.Str.Parse.{AllDigits, IsNumeral, digits_value, digits_value_after, without_leading_plus, ParsesUnsigned}
use Rattle.script.specs.declared.misread.Misread.{Misread}
use Rattle.script.specs.declared.misread.Misread.TheVariants.{NoNumber, Range}
use Rattle.script.specs.Numeral.{digit, digits, value, value_on, at_most, numeral}

in_range : (b : ℕ) → digit b ≡ true → IsInRange 48 57 b
in_range b e = grind (arith, nat_tests)

digit_is : (b : ℕ) → digit b ≡ true → digit_value b ≡ b - 48
digit_is b e = let r = in_range b e in omega (arith, digit_value_digit b r, r)

digit_small : (b : ℕ) → digit b ≡ true → digit_value b < 10
digit_small b e = let r = in_range b e in omega (arith, digit_value_digit b r, r)

first_digit : (b : ℕ) (bs : List ℕ) → digits (b ∷ bs) ≡ true → digit b ≡ true
first_digit b bs e = grind (arith, nat_tests)

other_digits : (b : ℕ) (bs : List ℕ) → digits (b ∷ bs) ≡ true → digits bs ≡ true
other_digits b bs e = grind (arith, nat_tests)

all_digits : (ds : List ℕ) → digits ds ≡ true → AllDigits 10 ds
all_digits [] e = tt
all_digits (b ∷ bs) e = (digit_small b (first_digit b bs e), all_digits bs (other_digits b bs e))

digits_text : (ds : List ℕ) → digits ds ≡ true → IsUtf8 ds
digits_text ds e = IsUtf8-from_ascii ds (IsAscii-from_digits ds (all_digits ds e))

same_value : (n : ℕ) (ds : List ℕ) → digits ds ≡ true → digits_value_after 10 n ds ≡ value_on n ds
same_value n [] e = refl
same_value n (b ∷ bs) e = ap (λ d. digits_value_after 10 (n * 10 + d) bs) (digit_is b (first_digit b bs e)) ∙ same_value (n * 10 + (b - 48)) bs (other_digits b bs e)

no_plus : (ds : List ℕ) → digits ds ≡ true → without_leading_plus ds ≡ ds
no_plus [] e = refl
no_plus (b ∷ bs) e = let r = in_range b (first_digit b bs e) in grind (arith, nat_tests, r)

module _ (w : List ℕ) (some : length w ≡ 0 → ⊥) (e : digits w ≡ true) where
  judged : (most : ℕ) → numeral most w ≡ at_most most (value w)
  judged most = by w some e
    where
      by : (v : List ℕ) → (length v ≡ 0 → ⊥) → digits v ≡ true → numeral most v ≡ at_most most (value v)
      by [] h d = absurd (h refl)
      by (b ∷ bs) h d = rw d refl

  some_digits : 0 < length w
  some_digits = omega (arith, some)

  -- What std's `parse` answers to the word, with any error of it as `Range`.
  pub parsed : (E : Type 0) (r : Result ℕ E) → ParsesUnsigned 64 10 w r → result_or r (Err Range) ≡ numeral (2 ^ 64 - 1) w
  parsed E (Ok n) p =
      let same = ap (digits_value 10) (no_plus w e) ∙ same_value 0 w e in
      let within : value w ≤ 2 ^ 64 - 1 = omega (arith, same, p.0.1) in
      sym (judged (2 ^ 64 - 1) ∙ rw (le-leb (value w) (2 ^ 64 - 1) within) (ap Ok (sym (p.1 ∙ same))))
  parsed E (Err d) p =
      let same = ap (digits_value 10) (no_plus w e) ∙ same_value 0 w e in
      let plain : IsNumeral 10 (without_leading_plus w) = rw (no_plus w e) (some_digits, all_digits w e) in
      let past : 2 ^ 64 - 1 < value w = ⊎_elim (λ h. h) (λ h. absurd (p (plain, omega (arith, same, h)))) (cases_lt (2 ^ 64 - 1) (value w)) in
      sym (judged (2 ^ 64 - 1) ∙ rw (lt-leb (value w) (2 ^ 64 - 1) past) refl)

  -- Digits alone are a text, and so `from_utf8` fails at none.
  module _ (B E : Type 0) (now : B → List ℕ) (Q : E → Type 0) where
    pub text_is : (r : Result B E) (s : B) → MatchResult r (λ t. (now t ≡ w) × IsUtf8 w) (λ d. ¬ (IsUtf8 w) × Q d) → Ok s ≡ result_or r (Err NoNumber) → now s ≡ w
    text_is (Ok t) s m h = let k : s ≡ t = cc in ap now k ∙ m.0
    text_is (Err d) s m h = cc

    pub text_ok : (r : Result B E) (d : Misread) → MatchResult r (λ t. (now t ≡ w) × IsUtf8 w) (λ d. ¬ (IsUtf8 w) × Q d) → result_or r (Err NoNumber) ≡ Err d → ⊥
    text_ok (Ok t) d m h = cc
    text_ok (Err f) d m h = m.0 (digits_text w e)
