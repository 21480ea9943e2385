-- Lines packed into the front places, and the places behind them emptied.
use Rattle.std.proofs.Common.{◌≡◌, ℕ, zero, suc, ◌+◌, ◌-◌, ◌<◌, ◌≤◌, Bool, true, false, cond, not, List, [], ◌∷◌, ◌++◌, length, take, set, replicate, sym, refl, ap, ◌∙◌, subst, ⊎_elim, append_assoc, append-nil, add-one, arith, length-append, length-set, get_or-set_other}
use lib.ListN.{length-replicate}
use Rattle.std.proofs.lemmas.List.{take_more_set, take_all, length-take-le, replicate_more}
use Rattle.std.proofs.lemmas.Bool.{cases_Bool, cond-true, cond-false, cond_both}
use Rattle.register.specs.declared.line.Line.{Line}
use Rattle.register.specs.declared.Register.{Register}
use Rattle.register.specs.Limits.{register_places}
use Rattle.register.specs.Lines.{no_line, line, with_line}
use Rattle.register.specs.Dropping.{finished_by, unfinished, register_of, without_finished, Packed}
use Rattle.register.specs.Fits.{Tabled}

pub packed_none : (day : ℕ) (g : Register) → Tabled g → Packed day g g 0 0
packed_none day g t = record { front = refl; behind = λ i h. refl; few = omega arith; count = refl; places = t.places }

-- One line more: it is finished, or goes to the next front place.
module _ (day : ℕ) (b a : Register) (n m : ℕ) (p : Packed day b a n m) (l : n < register_places) where
  done : finished_by day (line a n) ≡ true → Packed day b a (n + 1) m
  done e =
      let f : finished_by day (line b n) ≡ true = ap (finished_by day) (sym (p.behind n (omega arith))) ∙ e in
      record {
        front = rw add-one (p.front ∙ (sym (append-nil (unfinished day b n)) ∙ ap (λ (x : Bool). unfinished day b n ++ cond (not x) (line b n ∷ []) []) (sym f)));
        behind = λ i h. p.behind i (omega arith);
        few = let x = p.few in omega arith;
        count = p.count;
        places = p.places;
      }

  moved : finished_by day (line a n) ≡ false → Packed day b (with_line a m (line a n)) (n + 1) (m + 1)
  moved e =
      let s = p.behind n (omega arith) in
      let x = p.few in
      let y = p.places in
      let f : finished_by day (line b n) ≡ false = ap (finished_by day) (sym s) ∙ e in
      record {
        front = rw (add-one n)
            (take_more_set a.lines m (line a n) (omega arith)
            ∙ (ap (λ (x : List Line). x ++ line a n ∷ []) p.front
            ∙ (ap (λ (x : Line). unfinished day b n ++ x ∷ []) s
            ∙ ap (λ (x : Bool). unfinished day b n ++ cond (not x) (line b n ∷ []) []) (sym f))));
        behind = λ i h. get_or-set_other a.lines m i (line a n) no_line (apart i h x) ∙ p.behind i (omega arith);
        few = omega arith;
        count = p.count;
        places = length-set a.lines m (line a n) ∙ y;
      }
    where
      apart : (i : ℕ) → n + 1 ≤ i → m ≤ n → i ≡ m → ⊥
      apart i h x e = omega arith

  pub packed_more : (r : Register) (c : ℕ) → c ≡ cond (finished_by day (line a n)) m (m + 1)
      → r ≡ cond (finished_by day (line a n)) a (with_line a m (line a n)) → Packed day b r (n + 1) c
  packed_more r c ec er =
      ⊎_elim
      (λ (e : finished_by day (line a n) ≡ true).
      subst (λ (x : Register). Packed day b x (n + 1) c) (sym (er ∙ cond-true _ _ _ e))
      (subst (Packed day b a (n + 1)) (sym (ec ∙ cond-true _ _ _ e)) (done e)))
      (λ (e : finished_by day (line a n) ≡ false).
      subst (λ (x : Register). Packed day b x (n + 1) c) (sym (er ∙ cond-false _ _ _ e))
      (subst (Packed day b (with_line a m (line a n)) (n + 1)) (sym (ec ∙ cond-false _ _ _ e)) (moved e)))
      (cases_Bool (finished_by day (line a n)))

-- One place more behind the lines is emptied.
pub emptied_more : (xs ys : List Line) (i n : ℕ) (z : Line) → i < length xs → n ≤ i → z ≡ no_line → take i xs ≡ ys ++ replicate (i - n) no_line
    → take (i + 1) (set xs i z) ≡ ys ++ replicate (i + 1 - n) no_line
emptied_more xs ys i n z l h e p =
    let m : i - n + 1 ≡ i + 1 - n = omega arith in
    take_more_set xs i z l
    ∙ (ap (λ (x : List Line). x ++ z ∷ []) p
    ∙ (append_assoc ys (replicate (i - n) no_line) (z ∷ [])
    ∙ ap (λ (x : List Line). ys ++ x)
    (ap (λ (x : Line). replicate (i - n) no_line ++ x ∷ []) e ∙ (replicate_more (i - n) no_line ∙ ap (λ (k : ℕ). replicate k no_line) m))))

-- All places behind the lines are emptied.
pub emptied_all : (xs ys : List Line) (n i : ℕ) → length xs ≡ register_places → length ys ≡ register_places → n ≤ register_places → register_places ≤ i → i ≤ register_places
    → take i xs ≡ take n ys ++ replicate (i - n) no_line
    → ◌≡◌ {A = Register} (record { count = n; lines = xs }) (register_of (take n ys))
emptied_all xs ys n i a b few h k p =
    let c : length (take n ys) ≡ n = length-take-le n ys (omega arith) in
    let m : i - n ≡ register_places - length (take n ys) = omega arith in
    let e : xs ≡ take n ys ++ replicate (register_places - length (take n ys)) no_line
    = sym (take_all i xs (omega arith)) ∙ (p ∙ ap (λ (j : ℕ). take n ys ++ replicate j no_line) m) in
    λ t. record { count = sym c t; lines = e t }

unfinished_few : (day : ℕ) (g : Register) (n : ℕ) → length (unfinished day g n) ≤ n
unfinished_few day g zero = omega arith
unfinished_few day g (suc n) =
    let a = unfinished_few day g n in
    let b = length-append (unfinished day g n) (cond (not (finished_by day (line g n))) (line g n ∷ []) []) in
    let c = cond_both (not (finished_by day (line g n))) (line g n ∷ []) [] (λ (x : List Line). length x ≤ 1) (λ e. omega arith) (λ e. omega arith) in
    omega arith

-- A register of lines has all its places.
pub dropped_table : (day : ℕ) (g : Register) → Tabled g → Tabled (without_finished day g)
dropped_table day g t =
    let xs = unfinished day g g.count in
    let a = unfinished_few day g g.count in
    let b = t.few in
    let c = length-append xs (replicate (register_places - length xs) no_line) in
    let d = length-replicate (register_places - length xs) no_line in
    record { places = omega arith; few = omega arith }
