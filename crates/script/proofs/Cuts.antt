-- The first word of a text, by the runs of bytes that the code counts.
use Rattle.std.proofs.Common.{◌≡◌, ℕ, ◌<◌, Bool, true, false, cond, nat_lt, List, [], ◌∷◌, ◌++◌, length, take, drop, Some, None, sym, refl, ap, ◌∙◌, append_assoc, append-nil, one-add, arith}
use Rattle.std.proofs.lemmas.Bool.{ltb-true, ltb-false}
use Rattle.std.proofs.lemmas.List.{drop_all}
use Rattle.std.specs.List.{prefix_len, position, position_or_len}
use Rattle.script.specs.Splitting.{white, dark, ahead, words_on, words_of}

-- A text without the white space that it begins with.
abbrev trimmed : List ℕ → List ℕ
trimmed line = drop (position_or_len dark line) line

-- The word that a text begins with.
abbrev front : List ℕ → List ℕ
front text = take (prefix_len dark text) text

abbrev behind : List ℕ → List ℕ
behind text = drop (prefix_len dark text) text

trim_white : (b : ℕ) (bs : List ℕ) → white b ≡ true → trimmed (b ∷ bs) ≡ trimmed bs
trim_white b bs e = rw (e, one-add) refl

trim_dark : (b : ℕ) (bs : List ℕ) → white b ≡ false → trimmed (b ∷ bs) ≡ b ∷ bs
trim_dark b bs e = rw e refl

words_white : (b : ℕ) (bs : List ℕ) → white b ≡ true → words_of (b ∷ bs) ≡ words_of bs
words_white b bs e = rw e refl

past_white_by : (b : ℕ) (bs : List ℕ) (t : Bool) → white b ≡ t → words_of bs ≡ words_of (trimmed bs) → words_of (b ∷ bs) ≡ words_of (trimmed (b ∷ bs))
past_white_by b bs true e h = words_white b bs e ∙ h ∙ ap words_of (sym (trim_white b bs e))
past_white_by b bs false e h = ap words_of (sym (trim_dark b bs e))

past_white : (line : List ℕ) → words_of line ≡ words_of (trimmed line)
past_white [] = refl
past_white (b ∷ bs) = past_white_by b bs (white b) refl (past_white bs)

front_by : (w : List ℕ) (b : ℕ) (bs : List ℕ) (t : Bool) → white b ≡ t
    → words_on (w ++ b ∷ []) bs ≡ ahead ((w ++ b ∷ []) ++ front bs) (words_of (behind bs))
    → words_on w (b ∷ bs) ≡ ahead (w ++ front (b ∷ bs)) (words_of (behind (b ∷ bs)))
front_by w b bs true e h = rw (e, append-nil) (ap (ahead w) (sym (words_white b bs e)))
front_by w b bs false e h = rw (e, one-add) (h ∙ ap (λ v. ahead v (words_of (behind bs))) (append_assoc w (b ∷ []) (front bs)))

-- A word goes on to the first white space.
front_first : (w text : List ℕ) → words_on w text ≡ ahead (w ++ front text) (words_of (behind text))
front_first w [] = ap (λ v. ahead v []) (sym (append-nil w))
front_first w (b ∷ bs) = front_by w b bs (white b) refl (front_first (w ++ b ∷ []) bs)

ahead_some : (w : List ℕ) (ws : List (List ℕ)) → (length w ≡ 0 → ⊥) → ahead w ws ≡ w ∷ ws
ahead_some [] ws some = absurd (some refl)
ahead_some (b ∷ bs) ws some = refl

-- A text whose first byte is no white space begins with a word.
dark_word : (b : ℕ) (bs : List ℕ) → white b ≡ false → words_of (b ∷ bs) ≡ front (b ∷ bs) ∷ words_of (behind (b ∷ bs))
dark_word b bs e = front_first [] (b ∷ bs) ∙ ahead_some _ _ (λ h. let more = rw (e, one-add) at h in omega arith)

-- The line goes on with its first word, and then with other words.
abbrev Begins : List ℕ → Type 0
Begins line = words_of line ≡ front (trimmed line) ∷ words_of (behind (trimmed line))

begins_by : (b : ℕ) (bs : List ℕ) (t : Bool) → white b ≡ t → (position_or_len dark bs < length bs → Begins bs) → position_or_len dark (b ∷ bs) < length (b ∷ bs) → Begins (b ∷ bs)
begins_by b bs true e h some =
    let fewer = rw (e, one-add) at some in
    words_white b bs e ∙ h (omega arith) ∙ ap (λ t. front t ∷ words_of (behind t)) (sym (trim_white b bs e))
begins_by b bs false e h some = dark_word b bs e ∙ ap (λ t. front t ∷ words_of (behind t)) (sym (trim_dark b bs e))

begins : (line : List ℕ) → position_or_len dark line < length line → Begins line
begins [] some = absurd (omega arith)
begins (b ∷ bs) some = begins_by b bs (white b) refl (begins bs) some

module _ (line : List ℕ) where
  abbrev place : ℕ
  place = position_or_len dark line

  no_start_by : (t : Bool) → nat_lt place (length line) ≡ t → cond t (Some place) None ≡ None → words_of line ≡ []
  no_start_by true k e = cc
  no_start_by false k e = past_white line ∙ ap words_of (drop_all place line (ltb-false place (length line) k))

  pub no_start : position dark line ≡ None → words_of line ≡ []
  no_start = no_start_by (nat_lt place (length line)) refl

  start_by : (start : ℕ) (t : Bool) → nat_lt place (length line) ≡ t → cond t (Some place) None ≡ Some start → words_of line ≡ front (drop start line) ∷ words_of (behind (drop start line))
  start_by start true k e =
      let same : place ≡ start = cc in
      begins line (ltb-true place (length line) k) ∙ ap (λ n. front (drop n line) ∷ words_of (behind (drop n line))) same
  start_by start false k e = cc

  -- The same of the parts as the code has them.
  pub first_word : (text word rest : List ℕ) (start len : ℕ) → position dark line ≡ Some start → text ≡ drop start line → len ≡ prefix_len dark text
      → word ≡ take len text → rest ≡ drop len text → words_of line ≡ word ∷ words_of rest
  first_word text word rest start len e text_is len_is word_is rest_is =
      let parts = start_by start (nat_lt place (length line)) refl e in
      let word_front : word ≡ front (drop start line) = cc in
      let rest_behind : rest ≡ behind (drop start line) = cc in
      parts ∙ (λ i. sym word_front i ∷ words_of (sym rest_behind i))
