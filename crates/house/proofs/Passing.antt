-- The account events: what the house judges by itself and what its book answers are together what the event is answered.
use Rattle.std.proofs.Common.{◌≡◌, ℕ, ◌+◌, ◌*◌, ◌<◌, ◌≤◌, Bool, true, false, cond, not, ◌||◌, eqb, ltb, List, [], ◌∷◌, ◌++◌, None as no-refusal, Option, sym, refl, ap, ◌∙◌, subst, ⊎_elim, arith}
use Rattle.std.proofs.lemmas.Bool.{cases_Bool, cond-true, cond-false, and_parts, not-false, ltb-true, leb-true, ltb-false, lt-leb, le-ltb, ne_eqb, or_from}
use Rattle.book.specs.Ledger.{Ledger}
use Rattle.book.specs.Refusals.{Refusal, ◌when◌}
use Rattle.book.specs.Faults.{fault_number, from_one_to}
use Rattle.book.specs.Movement.{Movement, Put, Pull, Move, after, movement_number, no_account, no_asset}
use Rattle.book.specs.declared.fault.BookFault.{BookFault}
use Rattle.book.specs.declared.fault.BookFault.TheVariants as book-fault
use Rattle.rules.specs.declared.event.Event.{Event}
use Rattle.rules.specs.declared.event.Event.TheVariants.{Bring, Take, Endow, Pledge, Refund, Contribute}
use Rattle.rules.specs.declared.fault.HouseFault.{HouseFault}
use Rattle.rules.specs.declared.fault.HouseFault.TheVariants.{NoMember, NoAsset, NoFlag, BadAmount, WrongPhase, Bound, BelowRequirement, NoPlace, LineTooLarge, PositionTooLarge, NoClose, NothingOpen, TooEarly, LastDay, UnfitBook, BadCounts, Book}
use Rattle.rules.specs.declared.figures.Figures.{Figures}
use Rattle.rules.specs.Faults.{Answer, accepted, refused, book_layer, refusal, answer_by, is_accepted}
use Rattle.rules.specs.State.{State, settlement, collateral, contribution, reserve, cash, member, with_balances}
use Rattle.rules.specs.Run.{Before}
use Rattle.rules.specs.Events.{answer, effect, no_such_member, no_such_asset, bad_amount, is_bound, no_space, too_much, too_little}
use Rattle.house.specs.Handled.{Counted, most_moves, Handled, AnsweredBy}
use Rattle.desk.specs.Judged.{bring_judged, take_judged, endow_judged, pledge_judged, refund_judged}
use Rattle.desk.specs.Passed.{state_of, booked, then_booked, Passed}

-- No refusal of a list applies.
abbrev None : List (Refusal HouseFault) → Type 0
None [] = Unit {0}
None (r ∷ rs) = (r.applies ≡ false) × None rs

stands : (x : HouseFault) (n : ℕ) → refusal x ≡ then_booked (refusal x) n
stands NoMember n = refl
stands NoAsset n = refl
stands NoFlag n = refl
stands BadAmount n = refl
stands WrongPhase n = refl
stands Bound n = refl
stands BelowRequirement n = refl
stands NoPlace n = refl
stands LineTooLarge n = refl
stands PositionTooLarge n = refl
stands NoClose n = refl
stands NothingOpen n = refl
stands TooEarly n = refl
stands LastDay n = refl
stands UnfitBook n = refl
stands BadCounts n = refl
stands (Book f) n = refl

-- The house's own refusals go first; the rest is the book's answer where none of them applies.
own_first : (own rest : List (Refusal HouseFault)) (n : ℕ) → (None own → answer_by rest ≡ booked n)
    → answer_by (own ++ rest) ≡ then_booked (answer_by own) n
own_first [] rest n h = h tt
own_first (r ∷ own) rest n h =
    ⊎_elim
    (λ (e : r.applies ≡ true). cond-true _ _ _ e ∙ (stands r.fault n ∙ ap (λ (w : Answer). then_booked w n) (sym (cond-true _ _ _ e))))
    (λ (e : r.applies ≡ false). cond-false _ _ _ e ∙ (own_first own rest n (λ o. h (e, o)) ∙ ap (λ (w : Answer). then_booked w n) (sym (cond-false _ _ _ e))))
    (cases_Bool r.applies)

book_refuses : (x : BookFault) → refused book_layer (fault_number x) ≡ booked (fault_number x)
book_refuses book-fault.NoAccount = refl
book_refuses book-fault.NoAsset = refl
book_refuses book-fault.BadAmount = refl
book_refuses book-fault.NoSpace = refl
book_refuses book-fault.TooLittle = refl
book_refuses book-fault.TooMuch = refl
book_refuses book-fault.BadCounts = refl

-- What the book looks at: account, asset, amount, its space and one thing more.
abbrev looked : BookFault → Bool → Bool → Bool → Bool → Bool → ℕ
looked x a t n full y = cond a 20 (cond t 2 (cond n 4 (cond full 6 (cond y (fault_number x) 0))))

-- Where the house refuses nothing, account, asset and amount are there, and the book looks at its space and at one thing more.
passed_on : (own : List (Refusal HouseFault)) (x : BookFault) (a t n full y : Bool) → (None own → (a ≡ false) × (t ≡ false) × (n ≡ false))
    → answer_by (own ++ (Book book-fault.NoSpace when full ∷ Book x when y ∷ [])) ≡ then_booked (answer_by own) (looked x a t n full y)
passed_on own x a t n full y h =
    own_first own (Book book-fault.NoSpace when full ∷ Book x when y ∷ []) (looked x a t n full y)
    (λ o. let p = h o in go full y ∙ ap booked (sym (cond-false a 20 _ p.0 ∙ (cond-false t 2 _ p.1 ∙ cond-false n 4 (cond full 6 (cond y (fault_number x) 0)) p.2))))
  where
    go : (full y : Bool) → cond full (refused book_layer 6) (cond y (refused book_layer (fault_number x)) accepted) ≡ booked (cond full 6 (cond y (fault_number x) 0))
    go true y = refl
    go false true = book_refuses x
    go false false = refl

-- A member of the house has its three accounts on the book, and cash and the securities are its assets.
in_range : (most n : ℕ) → not (from_one_to most n) ≡ false → (0 < n) × (n ≤ most)
in_range most n e = let a = and_parts _ _ (not-false _ e) in (ltb-true _ _ a.0, leb-true _ _ a.1)

account_there : (f : Figures) (b : Ledger) (m k : ℕ) → Counted f b → no_such_member f m ≡ false → k ≤ 2 → no_account b (3 * m + k) ≡ false
account_there f b m k c e l = lt-leb _ _ (let h = in_range f.size.members m e in let a = c.accounts in omega arith)

settlement_there : (f : Figures) (b : Ledger) (m : ℕ) → Counted f b → no_such_member f m ≡ false → no_account b (settlement m) ≡ false
settlement_there f b m c e = lt-leb _ _ (let h = in_range f.size.members m e in let a = c.accounts in omega arith)

asset_there : (f : Figures) (b : Ledger) (t : ℕ) → Counted f b → no_such_asset f t ≡ false → no_asset b t ≡ false
asset_there f b t c e = lt-leb _ _ (let h = ltb-false _ _ e in let a = c.assets in omega arith)

cash_there : (f : Figures) (b : Ledger) → Counted f b → no_asset b cash ≡ false
cash_there f b c = lt-leb _ _ (let a = c.assets in omega arith)

-- What the book looks at of the two accounts of a move.
abbrev unlike : Ledger → ℕ → ℕ → Bool
unlike b j k = no_account b j || (no_account b k || eqb j k)

apart : (b : Ledger) (j k : ℕ) → no_account b j ≡ false → no_account b k ≡ false → (j ≡ k → ⊥) → unlike b j k ≡ false
apart b j k p q ne = or_from _ _ p (or_from _ _ q (ne_eqb j k ne))

module _ (f : Figures) (b : Ledger) (c : Counted f b) where
  bring_answered : (m t n : ℕ) → answer (state_of f b) (Bring m t n) b.space ≡ then_booked (bring_judged f m t n) (movement_number b (Put (settlement m) t n))
  bring_answered m t n =
      passed_on (NoMember when no_such_member f m ∷ NoAsset when no_such_asset f t ∷ BadAmount when bad_amount n ∷ [])
      book-fault.TooMuch (no_account b (settlement m)) (no_asset b t) (bad_amount n) (no_space b.space) (too_much (state_of f b) t n)
      (λ o. (settlement_there f b m c o.0, asset_there f b t c o.1.0, o.1.1.0))

  take_answered : (m t n : ℕ) → answer (state_of f b) (Take m t n) b.space ≡ then_booked (take_judged (state_of f b) m t n) (movement_number b (Pull (settlement m) t n))
  take_answered m t n =
      passed_on (NoMember when no_such_member f m ∷ NoAsset when no_such_asset f t ∷ BadAmount when bad_amount n ∷ Bound when is_bound (state_of f b) m ∷ [])
      book-fault.TooLittle (no_account b (settlement m)) (no_asset b t) (bad_amount n) (no_space b.space) (too_little (state_of f b) (settlement m) t n)
      (λ o. (settlement_there f b m c o.0, asset_there f b t c o.1.0, o.1.1.0))

  endow_answered : (n : ℕ) → answer (state_of f b) (Endow n) b.space ≡ then_booked (endow_judged n) (movement_number b (Put reserve cash n))
  endow_answered n =
      passed_on (BadAmount when bad_amount n ∷ [])
      book-fault.TooMuch (no_account b reserve) (no_asset b cash) (bad_amount n) (no_space b.space) (too_much (state_of f b) cash n)
      (λ o. (lt-leb _ _ (let a = c.accounts in omega arith), cash_there f b c, o.0))

  -- Pledge and contribute move cash from settlement to another account of the member.
  moved_answered : (k m n : ℕ) → 0 < k → k ≤ 2
      → answer (state_of f b) (Pledge m n) b.space ≡ then_booked (pledge_judged f m n) (movement_number b (Move (settlement m) (3 * m + k) cash n))
  moved_answered k m n l u =
      passed_on (NoMember when no_such_member f m ∷ BadAmount when bad_amount n ∷ [])
      book-fault.TooLittle (unlike b (settlement m) (3 * m + k)) (no_asset b cash) (bad_amount n) (no_space b.space) (too_little (state_of f b) (settlement m) cash n)
      (λ o. (apart b (settlement m) (3 * m + k) (settlement_there f b m c o.0) (account_there f b m k c o.0 u) (λ e. omega arith), cash_there f b c, o.1.0))

  pledge_answered : (m n : ℕ) → answer (state_of f b) (Pledge m n) b.space ≡ then_booked (pledge_judged f m n) (movement_number b (Move (settlement m) (collateral m) cash n))
  pledge_answered m n = moved_answered 1 m n (omega arith) (omega arith)

  contribute_answered : (m n : ℕ) → answer (state_of f b) (Contribute m n) b.space ≡ then_booked (pledge_judged f m n) (movement_number b (Move (settlement m) (contribution m) cash n))
  contribute_answered m n = moved_answered 2 m n (omega arith) (omega arith)

  -- Where the requirement stays covered, the collateral holds the amount.
  refund_answered : (m n : ℕ) → answer (state_of f b) (Refund m n) b.space ≡ then_booked (refund_judged (state_of f b) m n) (movement_number b (Move (collateral m) (settlement m) cash n))
  refund_answered m n =
      own_first own (Book book-fault.NoSpace when no_space b.space ∷ [])
      (looked book-fault.TooLittle (unlike b (collateral m) (settlement m)) (no_asset b cash) (bad_amount n) (no_space b.space) (too_little (state_of f b) (collateral m) cash n))
      (λ o.
      covered (no_space b.space) (too_little (state_of f b) (collateral m) cash n) (le-ltb _ _ (let h = ltb-false _ _ o.1.1.0 in omega arith))
      ∙ passed_on [] book-fault.TooLittle (unlike b (collateral m) (settlement m)) (no_asset b cash) (bad_amount n) (no_space b.space) (too_little (state_of f b) (collateral m) cash n)
      (λ _. (apart b (collateral m) (settlement m) (account_there f b m 1 c o.0 (omega arith)) (settlement_there f b m c o.0) (λ e. omega arith), cash_there f b c, o.1.0)))
    where
      own : List (Refusal HouseFault)
      own = NoMember when no_such_member f m ∷ BadAmount when bad_amount n ∷ BelowRequirement when ltb (b.held (collateral m) cash) ((member f m).requirement + n) ∷ []

      covered : (full y : Bool) → y ≡ false → answer_by (Book book-fault.NoSpace when full ∷ []) ≡ answer_by (Book book-fault.NoSpace when full ∷ Book book-fault.TooLittle when y ∷ [])
      covered full y e = ap (λ (w : Answer). cond full (refused book_layer 6) w) (sym (cond-false y (refused book_layer 7) accepted e))

-- An event that asks its book for one movement, and what the house judges of it by itself.
pub record Asks (rank : Before) (e : Event) (judged : Answer) (m : Movement) (f : Figures) (b : Ledger) : Type 0 where
  pub answered : answer (state_of f b) e b.space ≡ then_booked judged (movement_number b m)
  pub left : effect rank (state_of f b) e ≡ with_balances (state_of f b) (after b.held m)
  pub one : most_moves f e ≡ 1

module _ (rank : Before) (f : Figures) (b : Ledger) where
  pub bring_asks : (m t n : ℕ) → Counted f b → Asks rank (Bring m t n) (bring_judged f m t n) (Put (settlement m) t n) f b
  bring_asks m t n c = record { answered = bring_answered f b c m t n; left = refl; one = refl }

  pub take_asks : (m t n : ℕ) → Counted f b → Asks rank (Take m t n) (take_judged (state_of f b) m t n) (Pull (settlement m) t n) f b
  take_asks m t n c = record { answered = take_answered f b c m t n; left = refl; one = refl }

  pub endow_asks : (n : ℕ) → Counted f b → Asks rank (Endow n) (endow_judged n) (Put reserve cash n) f b
  endow_asks n c = record { answered = endow_answered f b c n; left = refl; one = refl }

  pub pledge_asks : (m n : ℕ) → Counted f b → Asks rank (Pledge m n) (pledge_judged f m n) (Move (settlement m) (collateral m) cash n) f b
  pledge_asks m n c = record { answered = pledge_answered f b c m n; left = refl; one = refl }

  pub contribute_asks : (m n : ℕ) → Counted f b → Asks rank (Contribute m n) (pledge_judged f m n) (Move (settlement m) (contribution m) cash n) f b
  contribute_asks m n c = record { answered = contribute_answered f b c m n; left = refl; one = refl }

  pub refund_asks : (m n : ℕ) → Counted f b → Asks rank (Refund m n) (refund_judged (state_of f b) m n) (Move (collateral m) (settlement m) cash n) f b
  refund_asks m n c = record { answered = refund_answered f b c m n; left = refl; one = refl }

handled : (rank : Before) (e : Event) (judged w : Answer) (m : Movement) (f : Figures) (b b' : Ledger)
    → Asks rank e judged m f b → Counted f b → Passed judged m b w b' → Handled rank e f b w f b'
handled rank e judged w m f b b' a c p = record {
  answer = p.answer ∙ sym a.answered;
  state = book ∙ (either (is_accepted w) ∙ ap (λ (s : State). cond (is_accepted w) s (state_of f b)) (sym a.left));
  no_more_space = p.no_more_space;
  spent = spent _ _ _ _ p.spent a.one;
  counted = record { accounts = p.accounts ∙ c.accounts; assets = p.assets ∙ c.assets };
}
  where
    book : state_of f b' ≡ with_balances (state_of f b) (cond (is_accepted w) (after b.held m) b.held)
    book = λ i. record { figures = f; accounts = p.accounts i; assets = p.assets i; held = p.held i }

    either : (t : Bool) → with_balances (state_of f b) (cond t (after b.held m) b.held) ≡ cond t (with_balances (state_of f b) (after b.held m)) (state_of f b)
    either true = refl
    either false = refl

    spent : (t : Bool) (x y k : ℕ) → x ≤ y + cond t 1 0 → k ≡ 1 → x ≤ y + cond t k 0
    spent true x y k l q = omega arith
    spent false x y k l q = l

-- The same of a house that was not refused.
pub answered : (o : Option HouseFault) → o ≡ no-refusal → (rank : Before) (e : Event) (judged w : Answer) (m : Movement) (f : Figures) (b b' : Ledger)
    → (Counted f b → Asks rank e judged m f b) → Passed judged m b w b' → AnsweredBy o rank e f b w f b'
answered o n rank e judged w m f b b' a p =
    subst (λ (o : Option HouseFault). AnsweredBy o rank e f b w f b') (sym n) (λ c. handled rank e judged w m f b b' (a c) c p)
