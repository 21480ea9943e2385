-- A trade that was netted, or refused, as an event of the house.
use Rattle.std.proofs.Common.{◌≡◌, ℕ, ◌+◌, ◌≤◌, Bool, true, false, cond, if◌then◌else◌, Ok, None, Result, sym, refl, ap, ◌∙◌, subst, arith}
use Rattle.book.specs.Ledger.{Ledger}
use Rattle.register.specs.declared.trade.Trade.{Trade}
use Rattle.rules.specs.declared.event.Event.TheVariants.{Novate}
use Rattle.rules.specs.declared.fault.HouseFault.{HouseFault}
use Rattle.rules.specs.declared.figures.Figures.{Figures}
use Rattle.rules.specs.Faults.{Answer, is_accepted}
use Rattle.rules.specs.Fit.{Fit}
use Rattle.rules.specs.Run.{Before}
use Rattle.trading.specs.Traded.{novate_judged, figures_traded}
use Rattle.desk.specs.Passed.{state_of}
use Rattle.house.specs.Seen.{Seen, Told, house_of, refusal_in, figures_in}
use Rattle.house.specs.Handled.{Counted, AnsweredBy}

spent : (x : Bool) (n : ℕ) → n ≤ n + cond x 0 0
spent true n = omega arith
spent false n = omega arith

counted : (x : Bool) (f : Figures) (t : Trade) (b : Ledger) → Counted f b → Counted (if x then figures_traded f t else f) b
counted true f t b c = record { accounts = c.accounts; assets = c.assets }
counted false f t b c = c

both : (x : Bool) (f : Figures) (t : Trade) (b : Ledger)
    → state_of (if x then figures_traded f t else f) b ≡ cond x (state_of (figures_traded f t) b) (state_of f b)
both true f t b = λ i. state_of (figures_traded f t) b
both false f t b = λ i. state_of f b

pub novated : (rank : Before) (f f' : Figures) (t : Trade) (b : Ledger) (w : Answer) → w ≡ novate_judged f t
    → f' ≡ (if is_accepted w then figures_traded f t else f) → AnsweredBy None rank (Novate t) f b w f' b
novated rank f f' t b w e left c = record {
  answer = e;
  state = ap (λ (x : Figures). state_of x b) left ∙ both (is_accepted w) f t b;
  no_more_space = omega arith;
  spent = spent (is_accepted w) b.space;
  counted = subst (λ (x : Figures). Counted x b) (sym left) (counted (is_accepted w) f t b c);
}

-- So it is told of a house that was opened.
pub novated_told : {B R : Type 0} (good : B → Type 0) (ledger : B → Ledger) (goes : R → Before) (h : Seen B R) (b : B) (r : R) (o : Result Figures HouseFault)
    (fit : Fit (figures_in o)) (f f' : Figures) (fit' : Fit f') (t : Trade) (w : Answer)
    → house_of b r o fit ≡ h → o ≡ Ok f → w ≡ novate_judged f t → f' ≡ (if is_accepted w then figures_traded f t else f)
    → Told good ledger goes (Novate t) h w (house_of b r (Ok f') fit')
novated_told good ledger goes h b r o fit f f' fit' t w is stood e left =
    subst (λ x. Told good ledger goes (Novate t) x w (house_of b r (Ok f') fit')) is
    (record {
      handled = λ _. subst (λ o. AnsweredBy (refusal_in o) (goes r) (Novate t) (figures_in o) (ledger b) w f' (ledger b)) (sym stood) (novated (goes r) f f' t (ledger b) w e left);
      stays = λ x. x;
      rank = refl {a = r};
      refusal = sym (ap refusal_in stood);
    })
