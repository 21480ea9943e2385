-- Sums over the lines of the register and over members, after one is written.
use Rattle.std.proofs.Common.{◌≡◌, ℕ, zero, suc, ◌+◌, ◌<◌, Bool, true, false, cond, eqb, length, ℤ, pos, ◌+ℤ◌, sym, refl, ap, ◌∙◌, ⊎_elim, arith}
use Rattle.std.proofs.lemmas.Int.{ints}
use Rattle.std.proofs.lemmas.Bool.{cases_eq, eq-eqb, ne_eqb}
use Rattle.book.specs.Ledger.{sum_to}
use Rattle.book.proofs.Sums.{sum_same, sum_with}
use Rattle.register.specs.declared.line.Line.{Line}
use Rattle.rules.specs.declared.figures.Member.{Member}
use Rattle.register.specs.declared.Register.{Register}
use Rattle.rules.specs.declared.figures.Figures.{Figures}
use Rattle.register.specs.Lines.{line, with_line, sum_z, sum_if, sum_z_if}
use Rattle.rules.specs.State.{member, position, put_member}
use Rattle.rules.proofs.Written.{line_with, member_with}

pub sum_z_same : (n : ℕ) (f g : ℕ → ℤ) → ((k : ℕ) → k < n → f k ≡ g k) → sum_z n f ≡ sum_z n g
sum_z_same zero f g h = refl
sum_z_same (suc n) f g h = let e = sum_z_same n f g (λ k l. h k (omega arith)) in let d = h n (omega arith) in cc

pub sum_z_zero : (n : ℕ) (f : ℕ → ℤ) → ((k : ℕ) → k < n → f k ≡ pos 0) → sum_z n f ≡ pos 0
sum_z_zero zero f h = refl
sum_z_zero (suc n) f h = let e = sum_z_zero n f (λ k l. h k (omega arith)) in let d = h n (omega arith) in omega (arith, ints)

-- One term of a sum is another.
pub sum_z_with : (n : ℕ) (f : ℕ → ℤ) (a : ℕ) (v : ℤ) → a < n → sum_z n (λ x. cond (eqb x a) v (f x)) +ℤ f a ≡ sum_z n f +ℤ v
sum_z_with zero f a v h = absurd (omega arith)
sum_z_with (suc n) f a v h =
    ⊎_elim
    (λ e. let d : f a ≡ f n = ap f e in
    let t : cond (eqb n a) v (f n) ≡ v = ap (λ b. cond b v (f n)) (eq-eqb n a (sym e)) in
    let s : sum_z n (λ x. cond (eqb x a) v (f x)) ≡ sum_z n f
    = sum_z_same n (λ x. cond (eqb x a) v (f x)) f (λ k l. ap (λ b. cond b v (f k)) (ne_eqb k a (λ q. omega arith))) in
    omega (arith, ints))
    (λ ne. let t : cond (eqb n a) v (f n) ≡ f n = ap (λ b. cond b v (f n)) (ne_eqb n a (λ q. ne (sym q))) in
    let i = sum_z_with n f a v (omega arith) in omega (arith, ints))
    (cases_eq a n)

-- What a line adds to a sum over the lines that pass a test.
abbrev pub part : (Line → Bool) → (Line → ℕ) → Line → ℕ
part p n l = cond (p l) (n l) 0

abbrev pub part_z : (Line → Bool) → (Line → ℤ) → Line → ℤ
part_z p z l = cond (p l) (z l) (pos 0)

-- A function of a choice is the choice of its values.
pub ap_cond : {A B : Type 0} (h : A → B) (b : Bool) (x y : A) → h (cond b x y) ≡ cond b (h x) (h y)
ap_cond h true x y = refl
ap_cond h false x y = refl

-- One line is another.
pub sum_if_with : (p : Line → Bool) (n : Line → ℕ) (g : Register) (i : ℕ) (l : Line) → i < g.count → i < length g.lines
    → sum_if p n (with_line g i l) + part p n (line g i) ≡ sum_if p n g + part p n l
sum_if_with p n g i l h h' =
    let e : sum_if p n (with_line g i l) ≡ sum_to g.count (λ j. cond (eqb j i) (part p n l) (part p n (line g j)))
    = sum_same g.count _ _ (λ j k. ap (part p n) (line_with g i l h' j) ∙ ap_cond (part p n) (eqb j i) l (line g j)) in
    let d = sum_with g.count (λ j. part p n (line g j)) i (part p n l) h in
    omega arith

pub sum_z_if_with : (p : Line → Bool) (z : Line → ℤ) (g : Register) (i : ℕ) (l : Line) → i < g.count → i < length g.lines
    → sum_z_if p z (with_line g i l) +ℤ part_z p z (line g i) ≡ sum_z_if p z g +ℤ part_z p z l
sum_z_if_with p z g i l h h' =
    let e : sum_z_if p z (with_line g i l) ≡ sum_z g.count (λ j. cond (eqb j i) (part_z p z l) (part_z p z (line g j)))
    = sum_z_same g.count _ _ (λ j k. ap (part_z p z) (line_with g i l h' j) ∙ ap_cond (part_z p z) (eqb j i) l (line g j)) in
    let d = sum_z_with g.count (λ j. part_z p z (line g j)) i (part_z p z l) h in
    ap (λ x. x +ℤ part_z p z (line g i)) e ∙ d

-- One member's record is another.
pub positions_with : (n : ℕ) (f : Figures) (m : ℕ) (r : Member) → m < n → m < length f.records
    → sum_z n (position (put_member f m r)) +ℤ position f m ≡ sum_z n (position f) +ℤ r.position
positions_with n f m r h h' =
    let e : sum_z n (position (put_member f m r)) ≡ sum_z n (λ k. cond (eqb k m) r.position (position f k))
    = sum_z_same n _ _ (λ k l. ap (λ (x : Member). x.position) (member_with f m r h' k) ∙ ap_cond (λ (x : Member). x.position) (eqb k m) r (member f k)) in
    let d = sum_z_with n (position f) m r.position h in
    ap (λ x. x +ℤ position f m) e ∙ d
