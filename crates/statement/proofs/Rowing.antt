-- One more amount in a row.
use Rattle.std.proofs.Common.{◌≡◌, ℕ, suc, ◌+◌, ◌-◌, ◌≤◌, max, List, ◌++◌, IfOk, Ok, Err, codes, decimal, Result, ap, ◌∙◌, arith}
use Rattle.statement.specs.Rows.{row_text}

pub one_more : (amount : ℕ → ℕ) (from place n : ℕ) (text word : List ℕ) → from ≤ place → n ≡ amount place → text ≡ row_text amount from (place - from) → word ≡ codes " " ++ decimal n
    → text ++ word ≡ row_text amount from (place + 1 - from)
one_more amount from place n text word l is so_far spelt =
    (λ k. so_far k ++ (spelt ∙ ap (λ v. codes " " ++ decimal v) (is ∙ ap amount at)) k)
    ∙ ap (row_text amount from) next
  where
    at : place ≡ from + (place - from)
    at = omega arith

    next : suc (place - from) ≡ place + 1 - from
    next = omega arith

-- The same in a row that begins at place 0.
pub one_more_from_none : (amount : ℕ → ℕ) (place n : ℕ) (text word : List ℕ) → n ≡ amount place → text ≡ row_text amount 0 place → word ≡ codes " " ++ decimal n
    → text ++ word ≡ row_text amount 0 (place + 1)
one_more_from_none amount place n text word is so_far spelt =
    one_more amount 0 place n text word (omega arith) is (so_far ∙ ap (row_text amount 0) here) spelt ∙ ap (row_text amount 0) next
  where
    here : place ≡ place - 0
    here = omega arith

    next : place + 1 - 0 ≡ place + 1
    next = omega arith

-- The places of a row are gone through.
pub ended : (from to place : ℕ) → place ≤ max from to → to ≤ place → place - from ≡ to - from
ended from to place few all = omega arith

-- A text that was made is also what equals what it is.
pub made_as : {X Y : Type 0} (bytes : X → List ℕ) (r : Result X Y) (x y : List ℕ) → IfOk r (λ t. bytes t ≡ x) → x ≡ y → IfOk r (λ t. bytes t ≡ y)
made_as bytes (Ok t) x y h e = h ∙ e
made_as bytes (Err f) x y h e = tt
