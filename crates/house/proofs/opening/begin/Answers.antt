use Rattle.std.proofs.Common.{◌≡◌, true, false, not, refl, sym, ap, ◌∙◌, subst}
use Rattle.std.proofs.lemmas.Bool.{cond-false}
use Rattle.rules.specs.Faults.{accepted}
use Rattle.rules.specs.Events.{open_answer, suits}
use Rattle.rules.specs.Fit.{Fit}
use Rattle.house.specs.Opened.{Opened, bad_counts}
use Rattle.house.proofs.Emptiness.{opened_fit, opens}
use Rattle.house.proofs.opening.begin.Goals as goal

pub returns-clause-opened : goal.returns-clause-opened
returns-clause-opened g c good =
    let b = g.B.Book.ledger c.args.book.now in
    let m = c.args.members in
    let s = c.args.securities in
    let fine : bad_counts m s ≡ false = sym c.bad_counts.ensures ∙ c.if-bad_counts.false in
    let fits : suits b m s ≡ true = sym (c.suits.ensures good) ∙ c.if-not-suits.false in
    let answer : accepted ≡ open_answer b m s = sym (cond-false _ _ _ fine ∙ cond-false _ _ _ (ap not fits)) in
    record {
      answer = answer;
      opened = λ _. subst (Opened b m s) (sym c.new_figures.ensures) (opens b m s (g.B.Book.sound c.args.book.now good) answer);
    }

pub returns-clause-fit : goal.returns-clause-fit
returns-clause-fit g c = subst Fit (sym c.new_figures.ensures) (opened_fit c.args.members c.args.securities (sym c.bad_counts.ensures ∙ c.if-bad_counts.false))

-- A house that is refused has the figures of one member and one security.
pub returns-then-bad_counts-clause-fit : goal.returns-then-bad_counts-clause-fit
returns-then-bad_counts-clause-fit g c = opened_fit 1 1 refl

pub returns-then-not-suits-clause-fit : goal.returns-then-not-suits-clause-fit
returns-then-not-suits-clause-fit g c = opened_fit 1 1 refl
