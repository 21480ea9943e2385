-- What movements do to the sums of assets, and that they keep a book sound.
use Rattle.std.proofs.Common.{◌≡◌, ℕ, ◌+◌, ◌-◌, ◌<◌, ◌≤◌, true, cond, eqb, [], ◌∷◌, sym, refl, ap, ◌∙◌, subst, ⊎_elim, arith}
use Rattle.std.proofs.lemmas.Bool.{cases_eq, eq-eqb, ne_eqb}
use Rattle.std.proofs.lemmas.Bool.Decides.{nat_tests}
use Rattle.book.specs.Ledger.{Ledger, Balances, Sound, sum_to, total, with_held, most_amount}
use Rattle.book.specs.Movement.{Movement, Put, Pull, Move, movement_number, after, Carried}
use Rattle.book.specs.Laws.{put_in, taken_out, TotalsFollow, TotalsWithin}
use Rattle.book.proofs.Sums.{total_with, total_with_other, outside_accounts, outside_assets}
use Rattle.book.proofs.Accepted.{put_accepted, pull_accepted, move_accepted}

-- The sum of an asset over the accounts of a book with other balances.
abbrev total_of : Ledger → Balances → ℕ → ℕ
total_of b f y = sum_to b.accounts (λ x. f x y)

abbrev Follows : Ledger → Movement → ℕ → Type 0
Follows b m y = total_of b (after b.held m) y + taken_out m y ≡ total b y + put_in m y

-- An accepted movement changes the total of its asset by what it puts in and takes out, and no other total.
total_of_put : (b : Ledger) (a s n : ℕ) → a < b.accounts → (y : ℕ) → Follows b (Put a s n) y
total_of_put b a s n l y =
    ⊎_elim
    (λ (e : y ≡ s).
    let d = total_with b.accounts b.held a s (b.held a s + n) l in
    let at : Follows b (Put a s n) s = let t : eqb s s ≡ true = eq-eqb s s refl in let i : cond (eqb s s) n 0 ≡ n = ap (λ x. cond x n 0) t in omega arith in
    subst (λ (z : ℕ). Follows b (Put a s n) z) (sym e) at)
    (λ d. let e = total_with_other b.accounts b.held a s (b.held a s + n) y d in
    let i : cond (eqb y s) n 0 ≡ 0 = ap (λ x. cond x n 0) (ne_eqb y s d) in omega arith)
    (cases_eq y s)

total_of_pull : (b : Ledger) (a s n : ℕ) → a < b.accounts → n ≤ b.held a s → (y : ℕ) → Follows b (Pull a s n) y
total_of_pull b a s n l enough y =
    ⊎_elim
    (λ (e : y ≡ s).
    let d = total_with b.accounts b.held a s (b.held a s - n) l in
    let at : Follows b (Pull a s n) s = let t : eqb s s ≡ true = eq-eqb s s refl in let i : cond (eqb s s) n 0 ≡ n = ap (λ x. cond x n 0) t in omega arith in
    subst (λ (z : ℕ). Follows b (Pull a s n) z) (sym e) at)
    (λ d. let e = total_with_other b.accounts b.held a s (b.held a s - n) y d in
    let i : cond (eqb y s) n 0 ≡ 0 = ap (λ x. cond x n 0) (ne_eqb y s d) in omega arith)
    (cases_eq y s)

-- A movement between two accounts leaves every total: also used where no ledger is at hand.
pub total_of_move : (n : ℕ) (f : Balances) (a c s p : ℕ) → a < n → c < n → (a ≡ c → ⊥) → p ≤ f a s → (y : ℕ)
    → sum_to n (λ x. after f (Move a c s p) x y) ≡ sum_to n (λ x. f x y)
total_of_move n f a c s p la lc apart enough y =
    let g = with_held f a s (f a s - p) in
    ⊎_elim
    (λ (e : y ≡ s).
    let one = total_with n f a s (f a s - p) la in
    let two = total_with n g c s (f c s + p) lc in
    let at : g c s ≡ f c s = grind (arith, nat_tests) in
    let all : sum_to n (λ x. after f (Move a c s p) x s) ≡ sum_to n (λ x. f x s) = omega arith in
    subst (λ (z : ℕ). sum_to n (λ x. after f (Move a c s p) x z) ≡ sum_to n (λ x. f x z)) (sym e) all)
    (λ d. total_with_other n g c s (f c s + p) y d ∙ total_with_other n f a s (f a s - p) y d)
    (cases_eq y s)

pub total_of_accepted : (b : Ledger) (m : Movement) → movement_number b m ≡ 0 → (y : ℕ) → Follows b m y
total_of_accepted b (Put a s n) e y = total_of_put b a s n (put_accepted b a s n e).account y
total_of_accepted b (Pull a s n) e y = let o = pull_accepted b a s n e in total_of_pull b a s n o.account o.enough y
total_of_accepted b (Move a c s n) e y =
    let o = move_accepted b a c s n e in
    let d = total_of_move b.accounts b.held a c s n o.from o.to o.apart o.enough y in omega arith

within_accepted : (b : Ledger) → Sound b → (m : Movement) → movement_number b m ≡ 0 → (y : ℕ) → total_of b (after b.held m) y ≤ most_amount
within_accepted b h (Put a s n) e y =
    let f = total_of_accepted b (Put a s n) e y in
    let w = (put_accepted b a s n e).within in
    let k = h.total_within y in
    ⊎_elim
    (λ (q : y ≡ s). let d : total b y ≡ total b s = ap (total b) q in let i : cond (eqb y s) n 0 ≡ n = ap (λ x. cond x n 0) (eq-eqb y s q) in omega arith)
    (λ d. let i : cond (eqb y s) n 0 ≡ 0 = ap (λ x. cond x n 0) (ne_eqb y s d) in omega arith)
    (cases_eq y s)
within_accepted b h (Pull a s n) e y = let f = total_of_accepted b (Pull a s n) e y in let k = h.total_within y in omega arith
within_accepted b h (Move a c s n) e y = let f = total_of_accepted b (Move a c s n) e y in let k = h.total_within y in omega arith

-- Balances that are 0 outside of the counts.
record Inside (n m : ℕ) (f : Balances) : Type 0 where
  accounts : (a s : ℕ) → n ≤ a → f a s ≡ 0
  assets : (a s : ℕ) → m ≤ s → f a s ≡ 0

inside_with : (n m : ℕ) (f : Balances) (a s v : ℕ) → a < n → s < m → Inside n m f → Inside n m (with_held f a s v)
inside_with n m f a s v la ls i =
    record { accounts = outside_accounts n f a s v la i.accounts; assets = outside_assets m f a s v ls i.assets }

inside_accepted : (b : Ledger) → Sound b → (m : Movement) → movement_number b m ≡ 0 → Inside b.accounts b.assets (after b.held m)
inside_accepted b h (Put a s n) e =
    let o = put_accepted b a s n e in
    inside_with _ _ b.held a s _ o.account o.asset (record { accounts = h.no_account; assets = h.no_asset })
inside_accepted b h (Pull a s n) e =
    let o = pull_accepted b a s n e in
    inside_with _ _ b.held a s _ o.account o.asset (record { accounts = h.no_account; assets = h.no_asset })
inside_accepted b h (Move a c s n) e =
    let o = move_accepted b a c s n e in
    inside_with _ _ (with_held b.held a s (b.held a s - n)) c s _ o.to o.asset
    (inside_with _ _ b.held a s _ o.from o.asset (record { accounts = h.no_account; assets = h.no_asset }))

-- A book of the counts of b, no more space, and these balances is sound.
sound_with : (b t : Ledger) (f : Balances) → Sound b → t.accounts ≡ b.accounts → t.assets ≡ b.assets → t.space ≤ b.space → t.held ≡ f
    → ((y : ℕ) → total_of b f y ≤ most_amount) → Inside b.accounts b.assets f → Sound t
sound_with b t f h ea es room eh within inside =
    let a = h.some_account in let c = h.few_accounts in let d = h.some_asset in let g = h.few_assets in let k = h.space_within in
    record {
      some_account = omega arith;
      few_accounts = omega arith;
      some_asset = omega arith;
      few_assets = omega arith;
      space_within = omega arith;
      total_within = λ s. subst (λ (n : ℕ). sum_to n (λ x. t.held x s) ≤ most_amount) (sym ea) (subst (λ (q : Balances). total_of b q s ≤ most_amount) (sym eh) (within s));
      no_account = λ x y q. ap (λ (z : Balances). z x y) eh ∙ inside.accounts x y (omega arith);
      no_asset = λ x y q. ap (λ (z : Balances). z x y) eh ∙ inside.assets x y (omega arith);
    }

-- A movement, accepted or refused, keeps a book sound.
pub carried_sound : (m : Movement) (b t : Ledger) (w : ℕ) → Sound b → Carried m b w t → Sound t
carried_sound m b t w h c =
    ⊎_elim
    (λ (e : w ≡ 0).
    let ok : movement_number b m ≡ 0 = sym c.answer ∙ e in
    sound_with b t (after b.held m) h c.accounts c.assets c.no_more_space
    (c.held ∙ ap (λ x. cond x (after b.held m) b.held) (eq-eqb w 0 e)) (within_accepted b h m ok) (inside_accepted b h m ok))
    (λ (d : w ≡ 0 → ⊥).
    sound_with b t b.held h c.accounts c.assets c.no_more_space
    (c.held ∙ ap (λ x. cond x (after b.held m) b.held) (ne_eqb w 0 d)) h.total_within (record { accounts = h.no_account; assets = h.no_asset }))
    (cases_eq w 0)

-- A movement, accepted or refused, changes each total by what it puts in and takes out if accepted.
total_of_carried : (m : Movement) (b t : Ledger) (w : ℕ) → Carried m b w t → (y : ℕ)
    → total t y + cond (eqb w 0) (taken_out m y) 0 ≡ total b y + cond (eqb w 0) (put_in m y) 0
total_of_carried m b t w c y =
    let n : total t y ≡ total_of b t.held y = ap (λ k. sum_to k (λ x. t.held x y)) c.accounts in
    let f : total_of b t.held y ≡ total_of b (cond (eqb w 0) (after b.held m) b.held) y = ap (λ (q : Balances). total_of b q y) c.held in
    ⊎_elim
    (λ (e : w ≡ 0).
    let k = total_of_accepted b m (sym c.answer ∙ e) y in
    let q = eq-eqb w 0 e in
    let g : total_of b (cond (eqb w 0) (after b.held m) b.held) y ≡ total_of b (after b.held m) y = ap (λ x. total_of b (cond x (after b.held m) b.held) y) q in
    let i : cond (eqb w 0) (taken_out m y) 0 ≡ taken_out m y = ap (λ x. cond x (taken_out m y) 0) q in
    let j : cond (eqb w 0) (put_in m y) 0 ≡ put_in m y = ap (λ x. cond x (put_in m y) 0) q in
    omega arith)
    (λ (d : w ≡ 0 → ⊥).
    let q = ne_eqb w 0 d in
    let g : total_of b (cond (eqb w 0) (after b.held m) b.held) y ≡ total b y = ap (λ x. total_of b (cond x (after b.held m) b.held) y) q in
    let i : cond (eqb w 0) (taken_out m y) 0 ≡ 0 = ap (λ x. cond x (taken_out m y) 0) q in
    let j : cond (eqb w 0) (put_in m y) 0 ≡ 0 = ap (λ x. cond x (put_in m y) 0) q in
    omega arith)
    (cases_eq w 0)

pub totals_follow : TotalsFollow
totals_follow [] b t h e s = let d : total t s ≡ total b s = ap (λ (q : Ledger). total q s) (sym e) in omega arith
totals_follow (x ∷ xs) b t h (c, (carried, ran)) s =
    let one = total_of_carried x.movement b c x.answer carried s in
    let rest = totals_follow xs c t (carried_sound x.movement b c x.answer h carried) ran s in
    omega arith

pub totals_within : TotalsWithin most_amount
totals_within [] b t h e s = subst (λ (q : Ledger). total q s ≤ most_amount) e (h.total_within s)
totals_within (x ∷ xs) b t h (c, (carried, ran)) s = totals_within xs c t (carried_sound x.movement b c x.answer h carried) ran s
