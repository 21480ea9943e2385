-- What stands in the figures after one line, one member's record or one number of escrow shares is written.
use Rattle.std.proofs.Common.{◌≡◌, ℕ, ◌<◌, cond, ◌&&◌, eqb, List, length, get_or, set, sym, ap, ◌∙◌, ⊎_elim}
use Rattle.std.proofs.lemmas.List.{get_or-set_same, get_or-set_other}
use Rattle.std.proofs.lemmas.Bool.{cases_eq, eq-eqb, ne_eqb}
use Rattle.register.specs.declared.line.Line.{Line}
use Rattle.rules.specs.declared.figures.Member.{Member}
use Rattle.rules.specs.declared.figures.Row.{Row}
use Rattle.register.specs.declared.Register.{Register}
use Rattle.rules.specs.declared.figures.Figures.{Figures}
use Rattle.register.specs.Lines.{no_line, line, with_line}
use Rattle.rules.specs.State.{no_member, no_row, member, in_escrow, put_member, put_escrow}

-- One element of a list is another.
pub get_or_with : {A : Type 0} (xs : List A) (i : ℕ) (v d : A) → i < length xs → (j : ℕ) → get_or (set xs i v) j d ≡ cond (eqb j i) v (get_or xs j d)
get_or_with xs i v d l j =
    ⊎_elim
    (λ (e : j ≡ i). ap (λ k. get_or (set xs i v) k d) e ∙ (get_or-set_same xs i v d l ∙ sym (ap (λ b. cond b v (get_or xs j d)) (eq-eqb j i e))))
    (λ (n : j ≡ i → ⊥). get_or-set_other xs i j v d n ∙ sym (ap (λ b. cond b v (get_or xs j d)) (ne_eqb j i n)))
    (cases_eq j i)

pub line_with : (g : Register) (i : ℕ) (l : Line) → i < length g.lines → (j : ℕ) → line (with_line g i l) j ≡ cond (eqb j i) l (line g j)
line_with g i l h j = get_or_with g.lines i l no_line h j

pub member_with : (f : Figures) (m : ℕ) (r : Member) → m < length f.records → (k : ℕ) → member (put_member f m r) k ≡ cond (eqb k m) r (member f k)
member_with f m r h k = get_or_with f.records m r no_member h k

-- The numbers of a row of escrow shares.
abbrev pub row : Figures → ℕ → Row
row f m = get_or f.escrow m no_row

pub escrow_with : (f : Figures) (m s n : ℕ) → m < length f.escrow → s < length (row f m).shares → (k t : ℕ)
    → in_escrow (put_escrow f m s n) k t ≡ cond (eqb k m && eqb t s) n (in_escrow f k t)
escrow_with f m s n hm hs k t =
    let r : Row = record { shares = set (row f m).shares s n } in
    ap (λ (x : Row). get_or x.shares t 0) (get_or_with f.escrow m r no_row hm k) ∙
    ⊎_elim
    (λ (e : k ≡ m).
    ap (λ b. get_or (cond b r (row f k)).shares t 0) (eq-eqb k m e)
    ∙ (get_or_with (row f m).shares s n 0 hs t
    ∙ (ap (λ z. cond (eqb t s) n (in_escrow f z t)) (sym e)
    ∙ sym (ap (λ b. cond (b && eqb t s) n (in_escrow f k t)) (eq-eqb k m e)))))
    (λ (d : k ≡ m → ⊥).
    ap (λ b. get_or (cond b r (row f k)).shares t 0) (ne_eqb k m d)
    ∙ sym (ap (λ b. cond (b && eqb t s) n (in_escrow f k t)) (ne_eqb k m d)))
    (cases_eq k m)
