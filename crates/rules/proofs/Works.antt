-- Every act of a run keeps what holds within a run, and its posting is taken.
use Rattle.std.proofs.Common.{◌≡◌, ℕ, zero, suc, ◌+◌, ◌-◌, ◌*◌, ◌<◌, ◌≤◌, Bool, true, false, cond, ◌&&◌, eqb, length, ℤ, pos, ◌+ℤ◌, ◌-ℤ◌, ◌*ℤ◌, neg_ℤ, sym, refl, ap, ◌∙◌, subst, ⊎_elim, add-mul, arith}
use lib.IntN.{pos-*ℤ-pos, negsuc-*ℤ-pos, zero-*ℤ}
use lib.Signed.{lt_z}
use Rattle.std.proofs.lemmas.Int.{ints}
use Rattle.std.proofs.lemmas.Bool.{ne_eqb, eqb-true, and_parts, cases_Bool}
use Rattle.book.specs.Ledger.{Balances, sum_to, with_held}
use Rattle.book.proofs.Sums.{sum_same, term_within_sum}
use Rattle.rank.specs.declared.claim.Claim.{Claim}
use Rattle.rank.specs.declared.key.Key.{Key}
use Rattle.rank.specs.Claims.{is_delivering, is_receiving}
use Rattle.rules.specs.declared.figures.Size.{Size}
use Rattle.rules.specs.declared.figures.Clock.{Clock}
use Rattle.register.specs.declared.line.Line.{Line}
use Rattle.rules.specs.declared.figures.Member.{Member}
use Rattle.register.specs.declared.Register.{Register}
use Rattle.rules.specs.declared.figures.Figures.{Figures}
use Rattle.rules.specs.Limits.{last_day}
use Rattle.register.specs.Netting.{due_day}
use Rattle.rules.specs.State.{State, pool, escrow, settlement, cash, member, position, in_escrow, today, owes, put_line, put_member, put_escrow, with_fails, with_figures}
use Rattle.register.specs.Lines.{line, key, sum_z, sum_if, delivers, receives, in_group, rest_of, to_deliver, to_receive, in_hand, signed_rest, with_line}
use Rattle.rules.specs.Run.{Act, Source, own, from_collateral, from_contribution, from_reserve, settle, give, give_escrow, serve, pay, pay_out, repay, pay_charges, pass, mark_line, mark, charge, compensate, close_line, require, source_account, amount, from_account, to_account, moved_asset, line_given, line_served, line_settled, line_marked, record_paid, noted, after_act}
use Rattle.rules.specs.Life.{PostingTaken}
use Rattle.rules.specs.Fit.{Known}
use Rattle.rules.proofs.Written.{row, escrow_with}
use Rattle.rules.proofs.Sums.{sum_if_with, sum_z_if_with, positions_with}
use Rattle.rules.proofs.Acts.{OfRun, Later, shape_noted, later_noted}
use Rattle.rules.proofs.Invariants.{SoundLines, Working, worth, all_worth, days}
use Rattle.rules.proofs.Postings.{Movable, movable_accepted, posted_nothing, posted_others, posted_to, posted_from, posted_total, cond_zero, total_at, sum_rose_at, source_known, source_above}

-- A line of the register.
abbrev line_at : State → ℕ → Line
line_at s i = line s.figures.register i

abbrev key_at : State → ℕ → Key
key_at s i = (line_at s i).claim.key

-- A pay-out finds its amount in the pool.
abbrev pub Ready : State → Act → Type 0
Ready s (settle i) = Unit {0}
Ready s (give i) = Unit {0}
Ready s (give_escrow i) = Unit {0}
Ready s (serve i) = Unit {0}
Ready s (pay m from) = Unit {0}
Ready s (pay_out m n) = amount s (pay_out m n) ≤ s.held pool cash
Ready s (repay m) = Unit {0}
Ready s (pay_charges m) = Unit {0}
Ready s (pass m t) = Unit {0}
Ready s (mark_line i) = Unit {0}
Ready s (mark m) = Unit {0}
Ready s (charge m) = Unit {0}
Ready s (compensate i c) = Unit {0}
Ready s (close_line i) = Unit {0}
Ready s (require m) = Unit {0}

-- The lines of a later state are sound, too.
pub known_later : (g e : Figures) → Later g e → (i : ℕ) → Known g (line g.register i) → Known e (line e.register i)
known_later g e l i k = record {
  some_member = subst (λ (c : Claim). 0 < c.key.member) c k.some_member;
  member_known = subst (λ (c : Claim). c.key.member ≤ e.size.members) c (subst (λ (z : Size). (line g.register i).claim.key.member ≤ z.members) (sym l.size) k.member_known);
  some_security = subst (λ (c : Claim). 0 < c.key.security) c k.some_security;
  security_known = subst (λ (c : Claim). c.key.security ≤ e.size.securities) c (subst (λ (z : Size). (line g.register i).claim.key.security ≤ z.securities) (sym l.size) k.security_known);
  due_known = subst (λ (c : Claim). c.key.due ≤ due_day (today e)) c (subst (λ (z : Clock). (line g.register i).claim.key.due ≤ due_day z.day) (sym l.clock) k.due_known);
}
  where
    c : (line g.register i).claim ≡ (line e.register i).claim
    c = sym (l.claim i)

pub sound_later : (g e : Figures) → Later g e → SoundLines g → SoundLines e
sound_later g e l h = record {
  known = λ i p. known_later g e l i (h.known i (in_g i p));
  differ = λ i j p q r. h.differ i j (in_g i p) (in_g j q) (sym (same i) ∙ (r ∙ same j));
  one_price = λ i j p q d t.
      l.price i ∙ (h.one_price i j (in_g i p) (in_g j q)
      (ap (λ (k : Key). k.due) (sym (same i)) ∙ (d ∙ ap (λ (k : Key). k.due) (same j)))
      (ap (λ (k : Key). k.security) (sym (same i)) ∙ (t ∙ ap (λ (k : Key). k.security) (same j)))
      ∙ sym (l.price j));
}
  where
    in_g : (i : ℕ) → i < e.register.count → i < g.register.count
    in_g i p = subst (λ (n : ℕ). i < n) l.count p

    same : (i : ℕ) → key e.register i ≡ key g.register i
    same i = ap (λ (c : Claim). c.key) (l.claim i)

days_more : (d : ℕ) → d ≤ due_day last_day → d < days
unfolding days
days_more d l = omega arith

module _ (s : State) (w : Working s) where
  -- A balance of the house is no more than an amount may be.
  movable_in : (a c t n : ℕ) → a < 3 * s.figures.size.members + 3 → c < 3 * s.figures.size.members + 3 → (a ≡ c → ⊥)
      → t ≤ s.figures.size.securities → n ≤ s.held a t → Movable s.accounts s.assets s.held a c t n
  movable_in a c t n la lc apart lt enough =
      let k = w.accounts in let m = w.assets in
      let in_sum = term_within_sum s.accounts (λ x. s.held x t) a (omega arith) in
      let small = w.small t in
      record { from = omega arith; to = omega arith; apart = apart; asset = omega arith; enough = enough; small = omega arith }

  in_hand_held : (d t : ℕ) → d < days → 0 < t → in_hand s.figures.register d t ≤ s.held pool t
  in_hand_held d t l p = let a = term_within_sum days (λ e. in_hand s.figures.register e t) d l in let b = w.pooled t p in omega arith

  in_escrow_held : (m t : ℕ) → m ≤ s.figures.size.members → 0 < t → in_escrow s.figures m t ≤ s.held escrow t
  in_escrow_held m t l p =
      let a = term_within_sum (suc s.figures.size.members) (λ k. in_escrow s.figures k t) m (omega arith) in
      let b = w.escrowed t p in omega arith

  line_due : (i : ℕ) → i < s.figures.register.count → (key_at s i).due < days
  line_due i l = let k = (w.lines.known i l).due_known in let a = w.shape.last in days_more _ (omega arith)

  pass_held : (m t : ℕ) → amount s (pass m t) ≤ in_escrow s.figures m t
  pass_held m t = elim (owes s.figures m) as (λ b. cond b 0 (in_escrow s.figures m t) ≤ in_escrow s.figures m t) [ true ↦ omega arith | false ↦ omega arith ]

-- What an act posts, the book takes.
act_movable : (s : State) (a : Act) → OfRun s.figures a → Ready s a → Working s → 0 < amount s a
    → Movable s.accounts s.assets s.held (from_account s.figures a) (to_account s.figures a) (moved_asset s.figures a) (amount s a)
act_movable s (settle i) o r w p = absurd (omega arith)
act_movable s (give i) o r w p =
    let k = w.lines.known i o.0 in let a = k.some_member in let b = k.member_known in
    movable_in s w _ _ _ _ (omega arith) (omega arith) (λ e. omega arith) k.security_known (omega arith)
act_movable s (give_escrow i) o r w p =
    let k = w.lines.known i o.0 in let e = in_escrow_held s w _ _ k.member_known k.some_security in
    movable_in s w _ _ _ _ (omega arith) (omega arith) (λ e. omega arith) k.security_known (omega arith)
act_movable s (serve i) o r w p =
    let k = w.lines.known i o.0 in let e = in_hand_held s w _ _ (line_due s w i o.0) k.some_security in
    movable_in s w _ _ _ _ (omega arith) (omega arith) (λ e. omega arith) k.security_known (omega arith)
act_movable s (pay m from) o r w p =
    let a = source_known _ m from o.1 in let b = source_above m from o.0 in
    movable_in s w _ _ _ _ a (omega arith) (λ e. omega arith) (omega arith) (omega arith)
act_movable s (pay_out m n) o r w p =
    let a = o.0 in let b = o.1 in movable_in s w _ _ _ _ (omega arith) (omega arith) (λ e. omega arith) (omega arith) r
act_movable s (repay m) o r w p =
    let a = o.0 in let b = o.1 in movable_in s w _ _ _ _ (omega arith) (omega arith) (λ e. omega arith) (omega arith) (omega arith)
act_movable s (pay_charges m) o r w p =
    let a = o.0 in let b = o.1 in movable_in s w _ _ _ _ (omega arith) (omega arith) (λ e. omega arith) (omega arith) (omega arith)
act_movable s (pass m t) o r w p =
    let a = o.0.0 in let b = o.0.1 in
    let e = in_escrow_held s w m t b o.1.0 in let d = pass_held s w m t in
    movable_in s w _ _ _ _ (omega arith) (omega arith) (λ e. omega arith) o.1.1 (omega arith)
act_movable s (mark_line i) o r w p = absurd (omega arith)
act_movable s (mark m) o r w p = absurd (omega arith)
act_movable s (charge m) o r w p = absurd (omega arith)
act_movable s (compensate i c) o r w p = absurd o
act_movable s (close_line i) o r w p = absurd o
act_movable s (require m) o r w p = absurd o

pub act_taken : (s : State) (a : Act) → OfRun s.figures a → Ready s a → Working s → PostingTaken s a
act_taken s a o r w p b sound shows room = movable_accepted b _ _ _ _ room p (shown (act_movable s a o r w p))
  where
    shown : {a c t n : ℕ} → Movable s.accounts s.assets s.held a c t n → Movable b.accounts b.assets b.held a c t n
    shown {a} {c} {t} {n} m = record {
      from = subst (λ (k : ℕ). a < k) (sym shows.accounts) m.from;
      to = subst (λ (k : ℕ). c < k) (sym shows.accounts) m.to;
      apart = m.apart;
      asset = subst (λ (k : ℕ). t < k) (sym shows.assets) m.asset;
      enough = subst (λ (f : Balances). n ≤ f a t) (sym shows.held) m.enough;
      small = m.small;
    }

-- Line i of a register is written anew: the same claim, and a rest lower by x.
module _ (g : Register) (i : ℕ) (k : Line) (x : ℕ) (h : i < g.count) (h' : i < length g.lines)
    (claim : k.claim ≡ (line g i).claim) (rest : k.rest + x ≡ (line g i).rest) where
  rests_lowered : (p : Claim → Bool) → sum_if (λ l. p l.claim) rest_of (with_line g i k) + cond (p (line g i).claim) x 0 ≡ sum_if (λ l. p l.claim) rest_of g
  rests_lowered p =
      let a = sum_if_with (λ l. p l.claim) rest_of g i k h h' in
      let b : cond (p k.claim) k.rest 0 ≡ cond (p (line g i).claim) k.rest 0 = ap (λ (c : Claim). cond (p c) k.rest 0) claim in
      let c : cond (p (line g i).claim) k.rest 0 + cond (p (line g i).claim) x 0 ≡ cond (p (line g i).claim) (line g i).rest 0 = both (p (line g i).claim) in
      omega arith
    where
      both : (b : Bool) → cond b k.rest 0 + cond b x 0 ≡ cond b (line g i).rest 0
      both true = rest
      both false = refl

  duty_lowered : (d t : ℕ) → to_deliver (with_line g i k) d t + cond (delivers (line g i) && in_group d t (line g i)) x 0 ≡ to_deliver g d t
  duty_lowered d t = rests_lowered (λ c. is_delivering c && (eqb c.key.due d && eqb c.key.security t))

  right_lowered : (d t : ℕ) → to_receive (with_line g i k) d t + cond (receives (line g i) && in_group d t (line g i)) x 0 ≡ to_receive g d t
  right_lowered d t = rests_lowered (λ c. is_receiving c && (eqb c.key.due d && eqb c.key.security t))

  duty_by : (b : Bool) → delivers (line g i) ≡ b → (d t : ℕ) → to_deliver (with_line g i k) d t + cond (b && in_group d t (line g i)) x 0 ≡ to_deliver g d t
  duty_by b e d t = subst (λ (z : Bool). to_deliver (with_line g i k) d t + cond (z && in_group d t (line g i)) x 0 ≡ to_deliver g d t) e (duty_lowered d t)

  right_by : (b : Bool) → receives (line g i) ≡ b → (d t : ℕ) → to_receive (with_line g i k) d t + cond (b && in_group d t (line g i)) x 0 ≡ to_receive g d t
  right_by b e d t = subst (λ (z : Bool). to_receive (with_line g i k) d t + cond (z && in_group d t (line g i)) x 0 ≡ to_receive g d t) e (right_lowered d t)

-- No line is on both sides.
one_side : (z : ℤ) → lt_z (pos 0) z ≡ true → lt_z z (pos 0) ≡ false
one_side z e = grind (arith, ints)

other_side : (z : ℤ) → lt_z z (pos 0) ≡ true → lt_z (pos 0) z ≡ false
other_side z e = grind (arith, ints)

abbrev Covered : Register → Type 0
Covered g = (d t : ℕ) → to_deliver g d t ≤ to_receive g d t

-- The same, with what it does to the shares in hand.
module _ (g : Register) (i : ℕ) (k : Line) (x : ℕ) (h : i < g.count) (h' : i < length g.lines)
    (claim : k.claim ≡ (line g i).claim) (rest : k.rest + x ≡ (line g i).rest) (covered : Covered g) where
  -- A line that delivers: in hand is so much more.
  given_covered : delivers (line g i) ≡ true → Covered (with_line g i k)
  given_covered e d t =
      let a = duty_by g i k x h h' claim rest true e d t in
      let b = right_by g i k x h h' claim rest false (one_side (line g i).claim.quantity e) d t in
      let c = covered d t in omega arith

  given_hand : delivers (line g i) ≡ true → (d t : ℕ) → in_hand (with_line g i k) d t ≡ in_hand g d t + cond (in_group d t (line g i)) x 0
  given_hand e d t =
      let a = duty_by g i k x h h' claim rest true e d t in
      let b = right_by g i k x h h' claim rest false (one_side (line g i).claim.quantity e) d t in
      let c = covered d t in omega arith

  -- A line that is served what is in hand for it: in hand is so much less.
  served_within : x ≤ in_hand g (line g i).claim.key.due (line g i).claim.key.security → (d t : ℕ) → cond (in_group d t (line g i)) x 0 ≤ in_hand g d t
  served_within most d t =
      ⊎_elim
      (λ (e : in_group d t (line g i) ≡ true).
      let p = and_parts (eqb (line g i).claim.key.due d) (eqb (line g i).claim.key.security t) e in
      let a : cond (in_group d t (line g i)) x 0 ≡ x = ap (λ b. cond b x 0) e in
      let b : in_hand g (line g i).claim.key.due (line g i).claim.key.security ≡ in_hand g d t
      = ap (λ z. in_hand g z (line g i).claim.key.security) (eqb-true _ _ p.0) ∙ ap (in_hand g d) (eqb-true _ _ p.1) in
      omega arith)
      (λ (e : in_group d t (line g i) ≡ false). let a : cond (in_group d t (line g i)) x 0 ≡ 0 = ap (λ b. cond b x 0) e in omega arith)
      (cases_Bool (in_group d t (line g i)))

  module _ (e : receives (line g i) ≡ true) (most : x ≤ in_hand g (line g i).claim.key.due (line g i).claim.key.security) where
    served_covered : Covered (with_line g i k)
    served_covered d t =
        let a = duty_by g i k x h h' claim rest false (other_side (line g i).claim.quantity e) d t in
        let b = right_by g i k x h h' claim rest true e d t in
        let c = covered d t in let q = served_within most d t in omega arith

    served_hand : (d t : ℕ) → in_hand g d t ≡ in_hand (with_line g i k) d t + cond (in_group d t (line g i)) x 0
    served_hand d t =
        let a = duty_by g i k x h h' claim rest false (other_side (line g i).claim.quantity e) d t in
        let b = right_by g i k x h h' claim rest true e d t in
        let c = covered d t in let q = served_within most d t in omega arith

-- A line that keeps its rest: nothing changes.
module _ (g : Register) (i : ℕ) (k : Line) (h : i < g.count) (h' : i < length g.lines)
    (claim : k.claim ≡ (line g i).claim) (rest : k.rest ≡ (line g i).rest) where
  same_duty : (d t : ℕ) → to_deliver (with_line g i k) d t ≡ to_deliver g d t
  same_duty d t =
      let a = duty_lowered g i k 0 h h' claim (omega arith) d t in
      let b = cond_zero (delivers (line g i) && in_group d t (line g i)) 0 refl in omega arith

  same_right : (d t : ℕ) → to_receive (with_line g i k) d t ≡ to_receive g d t
  same_right d t =
      let a = right_lowered g i k 0 h h' claim (omega arith) d t in
      let b = cond_zero (receives (line g i) && in_group d t (line g i)) 0 refl in omega arith

  same_covered : Covered g → Covered (with_line g i k)
  same_covered covered d t = let a = same_duty d t in let b = same_right d t in let c = covered d t in omega arith

  same_hand : (d t : ℕ) → in_hand (with_line g i k) d t ≡ in_hand g d t
  same_hand d t = let a = same_duty d t in let b = same_right d t in omega arith

-- Products with the sign of a line's side.
neg_mul : (r p : ℕ) → neg_ℤ (pos r) *ℤ pos p ≡ neg_ℤ (pos (r * p))
neg_mul zero p = zero-*ℤ (pos p) ∙ ap (λ n. neg_ℤ (pos n)) (let e : 0 ≡ 0 * p = omega arith in e)
neg_mul (suc r) p = negsuc-*ℤ-pos r p

lower_product : (r x p : ℕ) → x ≤ r → (r - x) * p + x * p ≡ r * p
lower_product r x p l = sym (add-mul (r - x) x p) ∙ ap (λ n. n * p) (omega arith)

-- What a line is worth less its member's position pays for.
worth_given : (l : Line) (x : ℕ) → receives l ≡ false → x ≤ l.rest → worth l ≡ worth (line_given l x) +ℤ pos (x * l.price)
worth_given l x e h =
    let a : signed_rest l *ℤ pos l.price ≡ pos (l.rest * l.price)
    = ap (λ b. cond b (neg_ℤ (pos l.rest)) (pos l.rest) *ℤ pos l.price) e ∙ pos-*ℤ-pos l.rest l.price in
    let b : signed_rest (line_given l x) *ℤ pos l.price ≡ pos ((l.rest - x) * l.price)
    = ap (λ b. cond b (neg_ℤ (pos (l.rest - x))) (pos (l.rest - x)) *ℤ pos l.price) e ∙ pos-*ℤ-pos (l.rest - x) l.price in
    let c = lower_product l.rest x l.price h in
    plain l.difference _ _ _ _ _ a b c
  where
    plain : (d u v : ℤ) (p q r : ℕ) → u ≡ pos r → v ≡ pos p → p + q ≡ r → d +ℤ u ≡ d +ℤ v +ℤ pos q
    plain d u v p q r a b c = omega (arith, ints)

worth_served : (l : Line) (x : ℕ) → receives l ≡ true → x ≤ l.rest → worth (line_served l x) ≡ worth l +ℤ pos (x * l.price)
worth_served l x e h =
    let a : signed_rest l *ℤ pos l.price ≡ neg_ℤ (pos (l.rest * l.price))
    = ap (λ b. cond b (neg_ℤ (pos l.rest)) (pos l.rest) *ℤ pos l.price) e ∙ neg_mul l.rest l.price in
    let b : signed_rest (line_served l x) *ℤ pos l.price ≡ neg_ℤ (pos ((l.rest - x) * l.price))
    = ap (λ b. cond b (neg_ℤ (pos (l.rest - x))) (pos (l.rest - x)) *ℤ pos l.price) e ∙ neg_mul (l.rest - x) l.price in
    let c = lower_product l.rest x l.price h in
    plain l.difference _ _ _ _ _ a b c
  where
    plain : (d u v : ℤ) (p q r : ℕ) → u ≡ neg_ℤ (pos r) → v ≡ neg_ℤ (pos p) → p + q ≡ r → d +ℤ v ≡ d +ℤ u +ℤ pos q
    plain d u v p q r a b c = omega (arith, ints)

-- Positions, the pool's cash and the worth of lines, where a member's record changes, or a line too.
balance_member : (S S' z y W : ℤ) (c c' : ℕ) → S' +ℤ z ≡ S +ℤ y → y +ℤ pos c' ≡ z +ℤ pos c → S +ℤ pos c ≡ W → S' +ℤ pos c' ≡ W
balance_member S S' z y W c c' a b e = omega (arith, ints)

balance_line : (S S' z y W W' l k : ℤ) (c c' : ℕ) → S' +ℤ z ≡ S +ℤ y → W' +ℤ l ≡ W +ℤ k → y +ℤ l ≡ z +ℤ k → c' ≡ c → S +ℤ pos c ≡ W → S' +ℤ pos c' ≡ W'
balance_line S S' z y W W' l k c c' a b d e f = omega (arith, ints)

-- The sum of a security's escrow shares over members, after one number is written.
module _ (f : Figures) (n m t : ℕ) (few : m < n) (rows : m < length f.escrow) (cells : t < length (row f m).shares) where
  escrow_written : (v u : ℕ) → sum_to n (λ k. in_escrow (put_escrow f m t v) k u) + cond (eqb u t) (in_escrow f m t) 0 ≡ sum_to n (λ k. in_escrow f k u) + cond (eqb u t) v 0
  escrow_written v u =
      let a = sum_same n (λ k. in_escrow (put_escrow f m t v) k u) (λ k. with_held (in_escrow f) m t v k u) (λ k l. escrow_with f m t v rows cells k u) in
      let b = total_at n (in_escrow f) m t v u few in omega arith

  escrow_fell : (x : ℕ) → x ≤ in_escrow f m t → (u : ℕ)
      → sum_to n (λ k. in_escrow (put_escrow f m t (in_escrow f m t - x)) k u) + cond (eqb u t) x 0 ≡ sum_to n (λ k. in_escrow f k u)
  escrow_fell x h u = let a = escrow_written (in_escrow f m t - x) u in let b = parts (eqb u t) in omega arith
    where
      parts : (b : Bool) → cond b (in_escrow f m t - x) 0 + cond b x 0 ≡ cond b (in_escrow f m t) 0
      parts true = omega arith
      parts false = refl

  escrow_rose : (x u : ℕ) → sum_to n (λ k. in_escrow (put_escrow f m t (in_escrow f m t + x)) k u) ≡ sum_to n (λ k. in_escrow f k u) + cond (eqb u t) x 0
  escrow_rose x u = let a = escrow_written (in_escrow f m t + x) u in let b = parts (eqb u t) in omega arith
    where
      parts : (b : Bool) → cond b (in_escrow f m t + x) 0 ≡ cond b (in_escrow f m t) 0 + cond b x 0
      parts true = refl
      parts false = refl

-- The parts of `Working` that each act keeps in its own way.
abbrev Escrowed : State → Type 0
Escrowed s = (t : ℕ) → 0 < t → sum_to (suc s.figures.size.members) (λ m. in_escrow s.figures m t) ≡ s.held escrow t

abbrev Pooled : State → Type 0
Pooled s = (t : ℕ) → 0 < t → sum_to days (λ d. in_hand s.figures.register d t) ≡ s.held pool t

abbrev Balanced : State → Type 0
Balanced s = sum_z (suc s.figures.size.members) (position s.figures) +ℤ pos (s.held pool cash) ≡ all_worth s.figures

module _ (s : State) (w : Working s) where
  few : s.figures.size.members ≤ 24
  few = w.shape.few_members

  line_place : (i : ℕ) → i < s.figures.register.count → i < length s.figures.register.lines
  line_place i l = let a = w.shape.few_lines in let b = w.shape.places in omega arith

  -- A member's record is another.
  member_balanced : (m : ℕ) (r : Member) (c : ℕ) → m ≤ s.figures.size.members
      → r.position +ℤ pos c ≡ position s.figures m +ℤ pos (s.held pool cash)
      → sum_z (suc s.figures.size.members) (position (put_member s.figures m r)) +ℤ pos c ≡ all_worth s.figures
  member_balanced m r c l e =
      balance_member _ _ (position s.figures m) r.position _ (s.held pool cash) c
      (positions_with (suc s.figures.size.members) s.figures m r (omega arith) (let a = few in let b = w.shape.records in omega arith)) e w.balanced

  all_worth_with : (i : ℕ) (k : Line) → i < s.figures.register.count
      → all_worth (put_line s.figures i k) +ℤ worth (line_at s i) ≡ all_worth s.figures +ℤ worth k
  all_worth_with i k l = sum_z_if_with (λ l. true) worth s.figures.register i k l (line_place i l)

  -- A line and its member's record are others.
  line_balanced : (i : ℕ) (k : Line) (m : ℕ) (r : Member) (c : ℕ) → i < s.figures.register.count → m ≤ s.figures.size.members
      → r.position +ℤ worth (line_at s i) ≡ position s.figures m +ℤ worth k → c ≡ s.held pool cash
      → sum_z (suc s.figures.size.members) (position (put_member (put_line s.figures i k) m r)) +ℤ pos c ≡ all_worth (put_line s.figures i k)
  line_balanced i k m r c l l' e same =
      balance_line _ _ (position s.figures m) r.position _ _ (worth (line_at s i)) (worth k) (s.held pool cash) c
      (positions_with (suc s.figures.size.members) (put_line s.figures i k) m r (omega arith) (let a = few in let b = w.shape.records in omega arith))
      (all_worth_with i k l) e same w.balanced

  -- The escrow shares of a member of the house, in figures with the same rows.
  escrow_row : (m : ℕ) → m ≤ s.figures.size.members → m < length s.figures.escrow
  escrow_row m l = let a = few in let b = w.shape.rows in omega arith

  escrow_cell : (m t : ℕ) → m ≤ s.figures.size.members → t ≤ s.figures.size.securities → t < length (row s.figures m).shares
  escrow_cell m t l h = let a = few in let b = w.shape.cells m (omega arith) in let c = w.shape.few_securities in omega arith

  -- The register with a line that keeps its claim and rest.
  same_pooled : (i : ℕ) (k : Line) → i < s.figures.register.count → k.claim ≡ (line_at s i).claim
      → k.rest ≡ (line_at s i).rest → (t : ℕ) → 0 < t → sum_to days (λ d. in_hand (with_line s.figures.register i k) d t) ≡ s.held pool t
  same_pooled i k l c r t p =
      sum_same days _ _ (λ d h. same_hand s.figures.register i k l (line_place i l) c r d t) ∙ w.pooled t p

module _ (s : State) (a : Act) (o : OfRun s.figures a) (r : Ready s a) (w : Working s) where
  later : Later s.figures (after_act s a).figures
  later = later_noted s.figures a (amount s a) w.shape o

  works_after : Escrowed (after_act s a) → Pooled (after_act s a) → Covered (after_act s a).figures.register → Balanced (after_act s a) → Working (after_act s a)
  works_after e p c b = record {
    shape = shape_noted s.figures a (amount s a) w.shape;
    lines = sound_later s.figures (after_act s a).figures later w.lines;
    accounts = w.accounts ∙ ap (λ (z : Size). 3 * z.members + 3) (sym later.size);
    assets = w.assets ∙ ap (λ (z : Size). z.securities + 1) (sym later.size);
    small = λ t. let k = posted_total s.accounts s.assets s.held _ _ _ _ (act_movable s a o r w) t in let m = w.small t in omega arith;
    escrowed = e;
    pooled = p;
    covered = c;
    balanced = b;
  }

  -- Balances after the act: of accounts that it does not name, of its accounts.
  pub held_others : (x : ℕ) → (x ≡ from_account s.figures a → ⊥) → (x ≡ to_account s.figures a → ⊥) → (t : ℕ) → (after_act s a).held x t ≡ s.held x t
  held_others = posted_others s.accounts s.assets s.held _ _ _ _ (act_movable s a o r w)

  pub held_to : (from_account s.figures a ≡ to_account s.figures a → ⊥) → (t : ℕ)
      → (after_act s a).held (to_account s.figures a) t ≡ s.held (to_account s.figures a) t + cond (eqb t (moved_asset s.figures a)) (amount s a) 0
  held_to = posted_to s.accounts s.assets s.held _ _ _ _ (act_movable s a o r w)

  pub held_from : (from_account s.figures a ≡ to_account s.figures a → ⊥) → (t : ℕ)
      → (after_act s a).held (from_account s.figures a) t + cond (eqb t (moved_asset s.figures a)) (amount s a) 0 ≡ s.held (from_account s.figures a) t
  held_from = posted_from s.accounts s.assets s.held _ _ _ _ (act_movable s a o r w)

-- An act that moves nothing leaves every balance.
pub held_still : (s : State) (a : Act) → amount s a ≡ 0 → (x t : ℕ) → (after_act s a).held x t ≡ s.held x t
held_still s a e x t = ap (λ (f : Balances). f x t) (posted_nothing s.accounts s.assets s.held _ _ _ (amount s a) e)

-- A line delivers x shares into the pool, from wherever: `held` is what the pool holds then.
module _ (s : State) (w : Working s) (i : ℕ) (in_register : i < s.figures.register.count) (gives : delivers (line_at s i) ≡ true)
    (x : ℕ) (most : x ≤ (line_at s i).rest) (held : ℕ → ℕ)
    (rose : (t : ℕ) → held t ≡ s.held pool t + cond (eqb t (key_at s i).security) x 0) where
  give_pooled : (t : ℕ) → 0 < t → sum_to days (λ d. in_hand (with_line s.figures.register i (line_given (line_at s i) x)) d t) ≡ held t
  give_pooled t p =
      let a = sum_rose_at days (in_hand s.figures.register) (in_hand (with_line s.figures.register i (line_given (line_at s i) x)))
      (key_at s i).due (key_at s i).security x t (line_due s w i in_register)
      (given_hand s.figures.register i (line_given (line_at s i) x) x in_register (line_place s w i in_register) refl (omega arith) w.covered gives) in
      let b = rose t in let c = w.pooled t p in omega arith

  give_covered : Covered (with_line s.figures.register i (line_given (line_at s i) x))
  give_covered = given_covered s.figures.register i _ x in_register (line_place s w i in_register) refl (omega arith) w.covered gives

  give_balanced : (r : Member) → r.position ≡ position s.figures (key_at s i).member -ℤ pos (x * (line_at s i).price)
      → sum_z (suc s.figures.size.members) (position (put_member (put_line s.figures i (line_given (line_at s i) x)) (key_at s i).member r)) +ℤ pos (held cash)
      ≡ all_worth (put_line s.figures i (line_given (line_at s i) x))
  give_balanced r e =
      line_balanced s w i (line_given (line_at s i) x) (key_at s i).member r (held cash) in_register (w.lines.known i in_register).member_known
      (plain (position s.figures (key_at s i).member) _ _ (worth (line_given (line_at s i) x)) (x * (line_at s i).price) e (worth_given (line_at s i) x (one_side (line_at s i).claim.quantity gives) most))
      (let a = rose cash in let p = (w.lines.known i in_register).some_security in
      let b : cond (eqb cash (key_at s i).security) x 0 ≡ 0 = ap (λ b. cond b x 0) (ne_eqb cash (key_at s i).security (λ e. omega arith)) in omega arith)
    where
      plain : (z y l k : ℤ) (n : ℕ) → y ≡ z -ℤ pos n → l ≡ k +ℤ pos n → y +ℤ l ≡ z +ℤ k
      plain z y l k n a b = omega (arith, ints)

gives_of : (f : Figures) (i : ℕ) → OfRun f (give i) → delivers (line f.register i) ≡ true
gives_of f i o = (and_parts _ _ o.1).0

give_works : (s : State) (i : ℕ) → OfRun s.figures (give i) → Working s → Working (after_act s (give i))
give_works s i o w =
    let m = (w.lines.known i o.0).some_member in
    works_after s (give i) o tt w
    (λ t p. w.escrowed t p ∙ sym (held_others s (give i) o tt w escrow (λ e. omega arith) (λ e. omega arith) t))
    (give_pooled s w i o.0 (gives_of s.figures i o) (amount s (give i)) (omega arith) _ rose)
    (give_covered s w i o.0 (gives_of s.figures i o) (amount s (give i)) (omega arith) _ rose)
    (give_balanced s w i o.0 (gives_of s.figures i o) (amount s (give i)) (omega arith) _ rose _ refl)
  where
    rose : (t : ℕ) → (after_act s (give i)).held pool t ≡ s.held pool t + cond (eqb t (key_at s i).security) (amount s (give i)) 0
    rose = let m = (w.lines.known i o.0).some_member in held_to s (give i) o tt w (λ e. omega arith)

give_escrow_works : (s : State) (i : ℕ) → OfRun s.figures (give_escrow i) → Working s → Working (after_act s (give_escrow i))
give_escrow_works s i o w =
    works_after s (give_escrow i) o tt w
    (λ t p. let a = fell t in let b = held_from s (give_escrow i) o tt w (λ e. omega arith) t in let c = w.escrowed t p in omega arith)
    (give_pooled s w i o.0 (gives_of s.figures i o) (amount s (give_escrow i)) (omega arith) _ rose)
    (give_covered s w i o.0 (gives_of s.figures i o) (amount s (give_escrow i)) (omega arith) _ rose)
    (give_balanced s w i o.0 (gives_of s.figures i o) (amount s (give_escrow i)) (omega arith) _ rose _ refl)
  where
    rose : (t : ℕ) → (after_act s (give_escrow i)).held pool t ≡ s.held pool t + cond (eqb t (key_at s i).security) (amount s (give_escrow i)) 0
    rose = held_to s (give_escrow i) o tt w (λ e. omega arith)

    fell : (t : ℕ) → sum_to (suc s.figures.size.members) (λ m. in_escrow (after_act s (give_escrow i)).figures m t)
        + cond (eqb t (key_at s i).security) (amount s (give_escrow i)) 0 ≡ sum_to (suc s.figures.size.members) (λ m. in_escrow s.figures m t)
    fell t =
        let k = w.lines.known i o.0 in let a = k.member_known in
        escrow_fell (noted s.figures (give i) (amount s (give_escrow i))) (suc s.figures.size.members) (key_at s i).member (key_at s i).security (omega arith)
        (escrow_row s w _ a) (escrow_cell s w _ _ a k.security_known) (amount s (give_escrow i)) (omega arith) t

settle_works : (s : State) (i : ℕ) → OfRun s.figures (settle i) → Working s → Working (after_act s (settle i))
settle_works s i o w =
    works_after s (settle i) o tt w
    (λ t p. w.escrowed t p ∙ sym (held_still s (settle i) refl escrow t))
    (λ t p. same_pooled s w i (line_settled (line_at s i)) o.0 refl refl t p ∙ sym (held_still s (settle i) refl pool t))
    (same_covered s.figures.register i (line_settled (line_at s i)) o.0 (line_place s w i o.0) refl refl w.covered)
    (line_balanced s w i (line_settled (line_at s i)) (key_at s i).member _ _ o.0 (w.lines.known i o.0).member_known
    (plain (position s.figures (key_at s i).member) (line_at s i).difference _) (held_still s (settle i) refl pool cash))
  where
    plain : (z d u : ℤ) → z -ℤ d +ℤ (d +ℤ u) ≡ z +ℤ (pos 0 +ℤ u)
    plain z d u = omega (arith, ints)

mark_line_works : (s : State) (i : ℕ) → OfRun s.figures (mark_line i) → Working s → Working (after_act s (mark_line i))
mark_line_works s i o w =
    works_after s (mark_line i) o tt w
    (λ t p. w.escrowed t p ∙ sym (held_still s (mark_line i) refl escrow t))
    (λ t p. same_pooled s w i (line_marked (line_at s i)) o.0 refl refl t p ∙ sym (held_still s (mark_line i) refl pool t))
    (same_covered s.figures.register i (line_marked (line_at s i)) o.0 (line_place s w i o.0) refl refl w.covered)
    (plain _ _ _ (worth (line_at s i)) _ _ (all_worth_with s w i (line_marked (line_at s i)) o.0) (held_still s (mark_line i) refl pool cash) w.balanced)
  where
    plain : (S W W' l : ℤ) (c c' : ℕ) → W' +ℤ l ≡ W +ℤ l → c' ≡ c → S +ℤ pos c ≡ W → S +ℤ pos c' ≡ W'
    plain S W W' l c c' a b e = omega (arith, ints)

serve_works : (s : State) (i : ℕ) → OfRun s.figures (serve i) → Working s → Working (after_act s (serve i))
serve_works s i o w =
    works_after s (serve i) o tt w
    (λ t p. let a = rose t in let b = held_to s (serve i) o tt w (λ e. omega arith) t in let c = w.escrowed t p in omega arith)
    (λ t p. let a = sum_rose_at days (in_hand (with_line s.figures.register i (line_served (line_at s i) (amount s (serve i))))) (in_hand s.figures.register)
    (key_at s i).due (key_at s i).security (amount s (serve i)) t (line_due s w i o.0)
    (served_hand s.figures.register i (line_served (line_at s i) (amount s (serve i))) (amount s (serve i)) o.0 (line_place s w i o.0) refl (omega arith) w.covered takes (omega arith)) in
    let b = held_from s (serve i) o tt w (λ e. omega arith) t in let c = w.pooled t p in omega arith)
    (served_covered s.figures.register i (line_served (line_at s i) (amount s (serve i))) (amount s (serve i)) o.0 (line_place s w i o.0) refl (omega arith) w.covered takes (omega arith))
    (line_balanced s w i (line_served (line_at s i) (amount s (serve i))) (key_at s i).member _ _ o.0 known.member_known
    (plain (position s.figures (key_at s i).member) _ _ (amount s (serve i) * (line_at s i).price) (worth_served (line_at s i) (amount s (serve i)) takes (omega arith))) cash_stays)
  where
    known : Known s.figures (line_at s i)
    known = w.lines.known i o.0

    takes : receives (line_at s i) ≡ true
    takes = (and_parts _ _ o.1).0

    rose : (t : ℕ) → sum_to (suc s.figures.size.members) (λ m. in_escrow (after_act s (serve i)).figures m t)
        ≡ sum_to (suc s.figures.size.members) (λ m. in_escrow s.figures m t) + cond (eqb t (key_at s i).security) (amount s (serve i)) 0
    rose t =
        let a = known.member_known in
        escrow_rose (noted s.figures (give i) 0) (suc s.figures.size.members) (key_at s i).member (key_at s i).security (omega arith)
        (escrow_row s w _ a) (escrow_cell s w _ _ a known.security_known) (amount s (serve i)) t

    cash_stays : (after_act s (serve i)).held pool cash ≡ s.held pool cash
    cash_stays =
        let a = held_from s (serve i) o tt w (λ e. omega arith) cash in let p = known.some_security in
        let b : cond (eqb cash (key_at s i).security) (amount s (serve i)) 0 ≡ 0 = ap (λ b. cond b (amount s (serve i)) 0) (ne_eqb cash (key_at s i).security (λ e. omega arith)) in omega arith

    plain : (z l k : ℤ) (n : ℕ) → k ≡ l +ℤ pos n → z +ℤ pos n +ℤ l ≡ z +ℤ k
    plain z l k n a = omega (arith, ints)

-- Acts that write a member's record alone, where cash moves or not.
cash_not : (t x : ℕ) → 0 < t → cond (eqb t cash) x 0 ≡ 0
cash_not t x p = ap (λ b. cond b x 0) (ne_eqb t cash (λ e. omega arith))

paid_position : (r : Member) (from : Source) (x : ℕ) → (record_paid r from x).position ≡ r.position -ℤ pos x
paid_position r own x = refl
paid_position r from_collateral x = refl
paid_position r from_contribution x = refl
paid_position r from_reserve x = refl

pay_works : (s : State) (m : ℕ) (from : Source) → OfRun s.figures (pay m from) → Working s → Working (after_act s (pay m from))
pay_works s m from o w =
    works_after s (pay m from) o tt w
    (λ t p. w.escrowed t p ∙ sym (held_others s (pay m from) o tt w escrow (λ e. let a = source_above m from o.0 in omega arith) (λ e. omega arith) t))
    (λ t p. let a = held_to s (pay m from) o tt w apart t in let b = cash_not t (amount s (pay m from)) p in let c = w.pooled t p in omega arith)
    w.covered
    (member_balanced s w m _ _ o.1
    (plain (position s.figures m) _ (amount s (pay m from)) _ _ (paid_position (member s.figures m) from (amount s (pay m from))) (held_to s (pay m from) o tt w apart cash)))
  where
    apart : source_account m from ≡ pool → ⊥
    apart e = let a = source_above m from o.0 in omega arith

    plain : (z y : ℤ) (x c c' : ℕ) → y ≡ z -ℤ pos x → c' ≡ c + x → y +ℤ pos c' ≡ z +ℤ pos c
    plain z y x c c' a b = omega (arith, ints)

pay_out_works : (s : State) (m n : ℕ) → OfRun s.figures (pay_out m n) → Ready s (pay_out m n) → Working s → Working (after_act s (pay_out m n))
pay_out_works s m n o r w =
    works_after s (pay_out m n) o r w
    (λ t p. w.escrowed t p ∙ sym (held_others s (pay_out m n) o r w escrow (λ e. omega arith) (λ e. let a = o.0 in omega arith) t))
    (λ t p. let a = held_from s (pay_out m n) o r w apart t in let b = cash_not t (amount s (pay_out m n)) p in let c = w.pooled t p in omega arith)
    w.covered
    (member_balanced s w m _ _ o.1 (plain (position s.figures m) (amount s (pay_out m n)) _ _ (held_from s (pay_out m n) o r w apart cash)))
  where
    apart : pool ≡ settlement m → ⊥
    apart e = let a = o.0 in omega arith

    plain : (z : ℤ) (x c c' : ℕ) → c' + x ≡ c → z +ℤ pos x +ℤ pos c' ≡ z +ℤ pos c
    plain z x c c' b = omega (arith, ints)

pass_works : (s : State) (m t : ℕ) → OfRun s.figures (pass m t) → Working s → Working (after_act s (pass m t))
pass_works s m t o w =
    works_after s (pass m t) o tt w
    (λ u p. let a = escrow_fell s.figures (suc s.figures.size.members) m t (let l = o.0.1 in omega arith) (escrow_row s w m o.0.1) (escrow_cell s w m t o.0.1 o.1.1)
    (amount s (pass m t)) (pass_held s w m t) u in
    let b = held_from s (pass m t) o tt w (λ e. let l = o.0.0 in omega arith) u in let c = w.escrowed u p in omega (arith, a, b, c))
    (λ u p. w.pooled u p ∙ sym (pool_stays u))
    w.covered
    (ap (λ n. sum_z (suc s.figures.size.members) (position s.figures) +ℤ pos n) (pool_stays cash) ∙ w.balanced)
  where
    pool_stays : (u : ℕ) → (after_act s (pass m t)).held pool u ≡ s.held pool u
    pool_stays = held_others s (pass m t) o tt w pool (λ e. omega arith) (λ e. let l = o.0.0 in omega arith)

-- An act between other accounts leaves the balances of the pool and of escrow.
house_stays : (s : State) (a : Act) (o : OfRun s.figures a) (r : Ready s a) (w : Working s) → escrow < from_account s.figures a → escrow < to_account s.figures a
    → (x : ℕ) → x ≤ escrow → (t : ℕ) → (after_act s a).held x t ≡ s.held x t
house_stays s a o r w h h' x l t = held_others s a o r w x (λ e. omega arith) (λ e. omega arith) t

-- An act that leaves them, and writes a member's record that keeps its position, and the count of fails.
record_works : (s : State) (a : Act) (o : OfRun s.figures a) (r : Ready s a) (w : Working s) (m : ℕ) (k : Member) (n : ℕ)
    → (after_act s a).figures ≡ with_fails (put_member s.figures m k) n → m ≤ s.figures.size.members → k.position ≡ position s.figures m
    → ((x : ℕ) → x ≤ escrow → (t : ℕ) → (after_act s a).held x t ≡ s.held x t) → Working (after_act s a)
record_works s a o r w m k n e l same stays =
    works_after s a o r w
    (subst (λ (f : Figures). Escrowed (with_figures (after_act s a) f)) (sym e) (λ t p. w.escrowed t p ∙ sym (stays escrow (omega arith) t)))
    (subst (λ (f : Figures). Pooled (with_figures (after_act s a) f)) (sym e) (λ t p. w.pooled t p ∙ sym (stays pool (omega arith) t)))
    (subst (λ (f : Figures). Covered f.register) (sym e) w.covered)
    (subst (λ (f : Figures). Balanced (with_figures (after_act s a) f)) (sym e)
    (member_balanced s w m k ((after_act s a).held pool cash) l
    (ap (λ z. z +ℤ pos ((after_act s a).held pool cash)) same ∙ ap (λ c. position s.figures m +ℤ pos c) (stays pool (omega arith) cash))))

repay_works : (s : State) (m : ℕ) → OfRun s.figures (repay m) → Working s → Working (after_act s (repay m))
repay_works s m o w = record_works s (repay m) o tt w m _ _ refl o.1 refl (house_stays s (repay m) o tt w (let a = o.0 in omega arith) (omega arith))

pay_charges_works : (s : State) (m : ℕ) → OfRun s.figures (pay_charges m) → Working s → Working (after_act s (pay_charges m))
pay_charges_works s m o w = record_works s (pay_charges m) o tt w m _ _ refl o.1 refl (house_stays s (pay_charges m) o tt w (let a = o.0 in omega arith) (omega arith))

mark_works : (s : State) (m : ℕ) → OfRun s.figures (mark m) → Working s → Working (after_act s (mark m))
mark_works s m o w = record_works s (mark m) o tt w m _ _ refl o.1 refl (λ x l. held_still s (mark m) refl x)

charge_works : (s : State) (m : ℕ) → OfRun s.figures (charge m) → Working s → Working (after_act s (charge m))
charge_works s m o w = record_works s (charge m) o tt w m _ _ refl o.1 refl (λ x l. held_still s (charge m) refl x)

pub act_works : (s : State) (a : Act) → OfRun s.figures a → Ready s a → Working s → Working (after_act s a)
act_works s (settle i) o r w = settle_works s i o w
act_works s (give i) o r w = give_works s i o w
act_works s (give_escrow i) o r w = give_escrow_works s i o w
act_works s (serve i) o r w = serve_works s i o w
act_works s (pay m from) o r w = pay_works s m from o w
act_works s (pay_out m n) o r w = pay_out_works s m n o r w
act_works s (repay m) o r w = repay_works s m o w
act_works s (pay_charges m) o r w = pay_charges_works s m o w
act_works s (pass m t) o r w = pass_works s m t o w
act_works s (mark_line i) o r w = mark_line_works s i o w
act_works s (mark m) o r w = mark_works s m o w
act_works s (charge m) o r w = charge_works s m o w
act_works s (compensate i c) o r w = absurd o
act_works s (close_line i) o r w = absurd o
act_works s (require m) o r w = absurd o
