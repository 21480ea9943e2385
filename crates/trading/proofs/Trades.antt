-- What a house knows of a trade that it has judged, and of its register before it nets one.
use Rattle.std.proofs.Common.{◌≡◌, ℕ, ◌≤◌, true, false, cond, not, List, [], ◌∷◌, ◌++◌, Err, Result, sym, refl, ap, ◌∙◌, subst, ⊎_elim, arith}
use Rattle.std.specs.List.{AllByRecursion}
use Rattle.std.proofs.lemmas.Bool.{cases_Bool, true≢false, and_parts, or_parts, not-false, leb-true, ltb-false, cond-true, cond-false}
use Rattle.book.specs.Refusals.{Refusal}
use Rattle.book.specs.Faults.{from_one_to}
use Rattle.register.specs.declared.trade.Trade.{Trade}
use Rattle.register.specs.declared.Register.{Register}
use Rattle.register.specs.Fits.{AllSized, Room}
use Rattle.register.specs.Limits.{most_quantity, most_price}
use Rattle.register.specs.Netting.{due_day, trade_filed}
use Rattle.rules.specs.declared.event.Event.TheVariants.{Novate}
use Rattle.rules.specs.declared.fault.HouseFault.{HouseFault}
use Rattle.rules.specs.declared.figures.Figures.{Figures}
use Rattle.rules.specs.Faults.{accepted, refusal, answer_by, answer_of, is_accepted}
use Rattle.rules.specs.Limits.{most_members}
use Rattle.rules.specs.State.{today, with_register}
use Rattle.rules.specs.Events.{trade_refusals, netting_refusals}
use Rattle.rules.specs.Fit.{Fit}
use Rattle.rules.proofs.Fits.{refused_by, none_applies, fit_left}
use Rattle.trading.specs.Traded.{trade_judged, netting_judged, novate_judged, figures_traded}

-- The lines of a house are within their limits.
pub lines_sized : (f : Figures) → Fit f → AllSized f.register
lines_sized f fit i l =
    let fits = fit.bounds.lines i l in let q = fits.quantity in let m = fits.money in record { quantity = omega arith; money = omega arith }

-- A trade that is sound as such, by the size of a house, is between its members, and within the limits of a trade.
pub record SoundTrade (t : Trade) : Type 0 where
  pub buyer : t.buyer ≤ most_members
  pub seller : t.seller ≤ most_members
  pub quantity : t.quantity ≤ most_quantity
  pub price : t.price ≤ most_price

within : (most n : ℕ) → not (from_one_to most n) ≡ false → n ≤ most
within most n e = leb-true _ _ (and_parts _ _ (not-false _ e)).1

pub trade_sound : (f : Figures) (t : Trade) → Fit f → ((g : Figures) → g.size ≡ f.size → accepted ≡ trade_judged g t) → SoundTrade t
trade_sound f t fit e =
    let few = fit.bounds.shape.few_members in
    let a = none_applies (trade_refusals f t []) (ap is_accepted (sym (e f refl))) in
    let m = or_parts _ _ a.0 in
    let n = or_parts _ _ a.1.1.1.0 in
    let b = within f.size.members t.buyer m.0 in
    let s = within f.size.members t.seller m.1 in
    record {
      buyer = omega arith;
      seller = omega arith;
      quantity = within most_quantity t.quantity n.0;
      price = within most_price t.price n.1;
    }

-- Where the netting refuses nothing, both sides of the trade have a place.
pub room_found : (f : Figures) (t : Trade) → netting_judged f t ≡ accepted → Room f.register (due_day (today f)) t
room_found f t e = ltb-false _ _ (none_applies (netting_refusals f t) (ap is_accepted e)).0

-- What is refused first is the answer; where nothing is, the refusals that follow give it.
judged_first : (own rest : List (Refusal HouseFault)) → is_accepted (answer_by own) ≡ false → answer_by (own ++ rest) ≡ answer_by own
judged_first [] rest e = absurd (true≢false e)
judged_first (r ∷ own) rest e =
    ⊎_elim
    (λ (q : r.applies ≡ true). cond-true r.applies _ _ q ∙ sym (cond-true r.applies _ _ q))
    (λ (q : r.applies ≡ false).
    cond-false r.applies _ _ q
    ∙ (judged_first own rest (ap is_accepted (sym (cond-false r.applies (refusal r.fault) (answer_by own) q)) ∙ e) ∙ sym (cond-false r.applies _ _ q)))
    (cases_Bool r.applies)

none_first : (own rest : List (Refusal HouseFault)) → AllByRecursion (λ (r : Refusal HouseFault). r.applies ≡ false) own → answer_by (own ++ rest) ≡ answer_by rest
none_first [] rest h = refl
none_first (r ∷ own) rest h = cond-false r.applies _ _ h.0 ∙ none_first own rest h.1

judged_next : (own rest : List (Refusal HouseFault)) → is_accepted (answer_by own) ≡ true → answer_by (own ++ rest) ≡ answer_by rest
judged_next own rest e = none_first own rest (none_applies own e)

-- A trade that is refused as such is refused, and leaves the figures.
pub record Refused (f : Figures) (t : Trade) (r : Result (Unit {0}) HouseFault) : Type 0 where
  pub answer : answer_of r ≡ novate_judged f t
  pub figures : f ≡ cond (is_accepted (answer_of r)) (figures_traded f t) f

pub refused_trade : (f : Figures) (t : Trade) (r : Result (Unit {0}) HouseFault) (x : HouseFault) → r ≡ Err x → refusal x ≡ trade_judged f t → Refused f t r
refused_trade f t r x e q = record {
  answer = ap answer_of e ∙ (q ∙ sym (judged_first (trade_refusals f t []) (netting_refusals f t) (ap is_accepted (sym q) ∙ refused_by x)));
  figures = sym (cond-false (is_accepted (answer_of r)) (figures_traded f t) f (ap (λ (r : Result (Unit {0}) HouseFault). is_accepted (answer_of r)) e ∙ refused_by x));
}

-- The netting answers for a trade that is sound as such.
pub sound_trade_next : (f : Figures) (t : Trade) → accepted ≡ trade_judged f t → netting_judged f t ≡ novate_judged f t
sound_trade_next f t e = sym (judged_next (trade_refusals f t []) (netting_refusals f t) (ap is_accepted (sym e)))

-- A trade of today that meets no refusal keeps the bounds.
pub fit_netted : (f : Figures) (t : Trade) → trade_judged f t ≡ accepted → netting_judged f t ≡ accepted → Fit f → Fit (figures_traded f t)
fit_netted f t e q ok =
    fit_left (λ _ _ _. false) (record { figures = f; accounts = 0; assets = 0; held = λ _ _. 0 }) (record { event = Novate t; space = 0 })
    accepted (figures_traded f t) (sym q ∙ sound_trade_next f t (sym e)) refl ok

-- The register with a trade that falls due on the due day of today.
pub due_today : (f : Figures) (t : Trade) (due : ℕ) (g : Register) → due ≡ due_day (today f) → g ≡ trade_filed f.register due t → with_register f g ≡ figures_traded f t
due_today f t due g e q = ap (with_register f) (q ∙ ap (λ (d : ℕ). trade_filed f.register d t) e)

-- The same places, said of a deal that is the trade, due as one of today.
pub room_today : (f : Figures) (t : Trade) (g : Register) (d : ℕ) (u : Trade) → g ≡ f.register → d ≡ due_day (today f) → u ≡ t
    → Room f.register (due_day (today f)) t → Room g d u
room_today f t g d u eg ed eu room =
    subst (λ (x : Register). Room x d u) (sym eg)
    (subst (λ (x : ℕ). Room f.register x u) (sym ed) (subst (λ (x : Trade). Room f.register (due_day (today f)) x) (sym eu) room))

-- The figures h with a trade of today netted into their register g, where they are the figures f.
pub traded_today : (h f : Figures) (t : Trade) (g : Register) (d : ℕ) (u : Trade) → h ≡ f → d ≡ due_day (today f) → u ≡ t
    → g ≡ trade_filed h.register d u → with_register h g ≡ figures_traded f t
traded_today h f t g d u eh ed eu eg =
    ap (λ (x : Figures). with_register x g) eh
    ∙ ap (with_register f)
    (eg ∙ (ap (λ (x : Figures). trade_filed x.register d u) eh
    ∙ (ap (λ (x : ℕ). trade_filed f.register x u) ed ∙ ap (λ (x : Trade). trade_filed f.register (due_day (today f)) x) eu)))
