-- That the places behind a register's lines are empty, kept wherever lines change.
use Rattle.std.proofs.Common.{◌≡◌, ℕ, cond, Some, None, Option, zero, suc, ◌+◌, ◌-◌, ◌<◌, ◌≤◌, List, [], ◌∷◌, ◌++◌, length, get_or, take, set, replicate, sym, refl, ap, ◌∙◌, subst, ⊎_elim, append_assoc, append-nil, add-one, add-zero, arith, length-append, length-set, get_or-set_other}
use lib.ListN.{length-replicate}
use Rattle.std.proofs.lemmas.List.{take_more, replicate_more, get_or-set_same, get_or-append_right, get_or-replicate, get_or_past}
use Rattle.std.proofs.lemmas.Bool.{cases_eq, cases_lt, ltb-true, ltb-false}
use Rattle.rank.specs.declared.key.Key.{Key}
use Rattle.register.specs.declared.line.Line.{Line}
use Rattle.register.specs.declared.Register.{Register}
use Rattle.register.specs.Limits.{register_places}
use Rattle.register.specs.Lines.{no_line, line, with_line}
use Rattle.register.specs.Netting.{known, place_of}
use Rattle.register.specs.Dropping.{register_of}
use Rattle.register.specs.Fits.{Tabled, Shaped}
use Rattle.register.proofs.Packing.{emptied_all}
use Rattle.register.proofs.Listed.{place_is, place_is_none}

-- The places from n on, empty, behind the first n.
taken_behind : (xs : List Line) (n k : ℕ) → n + k ≤ length xs → ((i : ℕ) → n ≤ i → get_or xs i no_line ≡ no_line)
    → take (n + k) xs ≡ take n xs ++ replicate k no_line
taken_behind xs n zero h e = rw (add-zero n) (sym (append-nil (take n xs)))
taken_behind xs n (suc k) h e =
    let one : n + suc k ≡ (n + k) + 1 = omega arith in
    ap (λ (m : ℕ). take m xs) one
    ∙ (take_more xs (n + k) no_line (omega arith)
    ∙ (ap (λ (x : Line). take (n + k) xs ++ x ∷ []) (e (n + k) (omega arith))
    ∙ (ap (λ (ys : List Line). ys ++ no_line ∷ []) (taken_behind xs n k (omega arith) e)
    ∙ (append_assoc (take n xs) (replicate k no_line) (no_line ∷ [])
    ∙ ap (λ (ys : List Line). take n xs ++ ys) (replicate_more k no_line ∙ ap (λ (m : ℕ). replicate m no_line) (add-one k))))))

pub shaped : (g : Register) → Tabled g → ((i : ℕ) → g.count ≤ i → line g i ≡ no_line) → Shaped g
shaped g t e =
    let places = t.places in
    let few = t.few in
    let rest : g.count + (register_places - g.count) ≡ register_places = omega arith in
    let taken = taken_behind g.lines g.count (register_places - g.count) (omega arith) e in
    record {
      table = t;
      behind = e;
      listed = emptied_all g.lines g.lines g.count register_places places places few (omega arith) (omega arith)
          (subst (λ (m : ℕ). take m g.lines ≡ take g.count g.lines ++ replicate (register_places - g.count) no_line) rest taken);
    }

-- A register of lines.
pub shaped_of : (ls : List Line) → length ls ≤ register_places → Shaped (register_of ls)
shaped_of ls h =
    let rest = register_places - length ls in
    let a = length-append ls (replicate rest no_line) in
    let b = length-replicate rest no_line in
    shaped (register_of ls) (record { places = omega arith; few = h })
    (λ i l.
    get_or-append_right ls (replicate rest no_line) (length ls) i no_line refl l
    ∙ ⊎_elim
    (λ (w : i - length ls < rest). get_or-replicate rest (i - length ls) no_line no_line w)
    (λ (p : rest ≤ i - length ls). get_or_past (replicate rest no_line) (i - length ls) no_line (omega arith))
    (cases_lt (i - length ls) rest))

pub shaped_none : (l : Line) → l ≡ no_line → Shaped (record { count = 0; lines = replicate 512 l })
shaped_none l e = subst (λ (x : Line). Shaped (record { count = 0; lines = replicate 512 x })) (sym e) (shaped_of [] (omega arith))

-- A line that is changed, of n lines.
pub shaped_with : (n : ℕ) (ls : List Line) (i : ℕ) (l : Line) → Shaped (record { count = n; lines = ls }) → i < n → Shaped (record { count = n; lines = set ls i l })
shaped_with n ls i l s w =
    let places = s.table.places in
    let c = length-set ls i l in
    shaped (record { count = n; lines = set ls i l }) (record { places = omega arith; few = s.table.few })
    (λ j h. get_or-set_other ls i j l no_line (λ e. omega arith) ∙ s.behind j h)

-- A line more.
pub shaped_more : (n : ℕ) (ls : List Line) (l : Line) → Shaped (record { count = n; lines = ls }) → n < register_places → Shaped (record { count = n + 1; lines = set ls n l })
shaped_more n ls l s room =
    let places = s.table.places in
    let c = length-set ls n l in
    shaped (record { count = n + 1; lines = set ls n l }) (record { places = omega arith; few = omega arith })
    (λ j h. get_or-set_other ls n j l no_line (λ e. omega arith) ∙ s.behind j (omega arith))

-- A line that is moved to the front.
pub shaped_moved : (g : Register) (i j : ℕ) → Shaped g → i ≤ j → j < register_places → Shaped (with_line g i (line g j))
shaped_moved g i j s front room =
    let places = s.table.places in
    let c = length-set g.lines i (line g j) in
    shaped (with_line g i (line g j)) (record { places = omega arith; few = s.table.few })
    (λ k h.
    ⊎_elim
    (λ (e : k ≡ i).
    subst (λ (m : ℕ). get_or (set g.lines i (line g j)) m no_line ≡ no_line) (sym e)
    (get_or-set_same g.lines i (line g j) no_line (omega arith) ∙ s.behind j (omega arith)))
    (λ (n : k ≡ i → ⊥). get_or-set_other g.lines i k (line g j) no_line n ∙ s.behind k h)
    (cases_eq k i))

-- The place that was found for a key is one of the lines; where none was, there is a place behind them.
pub place_found : (g : Register) (k : Key) (o : Option ℕ) (i n : ℕ) (ls : List Line) → o ≡ cond (known g k) (Some (place_of g k)) None → o ≡ Some i
    → record { count = n; lines = ls } ≡ g → i < n
place_found g k o i n ls e is same =
    let at = place_is g k i (sym e ∙ is) in
    let w = ltb-true _ _ at.0 in
    let p = at.1 in
    subst (λ (x : Register). i < x.count) (sym same) (omega arith)

pub place_left : (g : Register) (k : Key) (o : Option ℕ) (n : ℕ) (ls : List Line) → o ≡ cond (known g k) (Some (place_of g k)) None → o ≡ None
    → record { count = n; lines = ls } ≡ g → place_of g k < register_places → n < register_places
place_left g k o n ls e is same room =
    let least = ltb-false _ _ (place_is_none g k (sym e ∙ is)) in
    subst (λ (x : Register). x.count < register_places) (sym same) (omega arith)

-- A line put into the place that was found for a key, or into the first place behind the lines where none was.
pub shaped_found : (n : ℕ) (ls : List Line) (i : ℕ) (l : Line) (g : Register) (k : Key) (o : Option ℕ) → o ≡ Some i → o ≡ cond (known g k) (Some (place_of g k)) None
    → record { count = n; lines = ls } ≡ g → Shaped (record { count = n; lines = ls }) → Shaped (record { count = n; lines = set ls i l })
shaped_found n ls i l g k o is e same s = shaped_with n ls i l s (place_found g k o i n ls e is same)

pub shaped_left : (n : ℕ) (ls : List Line) (l : Line) (g : Register) (k : Key) (o : Option ℕ) → o ≡ None → o ≡ cond (known g k) (Some (place_of g k)) None
    → record { count = n; lines = ls } ≡ g → place_of g k < register_places → Shaped (record { count = n; lines = ls }) → Shaped (record { count = n + 1; lines = set ls n l })
shaped_left n ls l g k o is e same room s = shaped_more n ls l s (place_left g k o n ls e is same room)

-- A register without lines is the empty one.
pub none_left : (g : Register) → g ≡ register_of (take g.count g.lines) → g.count ≡ 0 → g ≡ register_of []
none_left g is none = is ∙ ap (λ (n : ℕ). register_of (take n g.lines)) none

pub no_lines : (g : Register) → g ≡ register_of (take g.count g.lines) → g.count ≡ 0 → g.lines ≡ replicate register_places no_line
no_lines g is none = ap (λ (h : Register). h.lines) (none_left g is none)
