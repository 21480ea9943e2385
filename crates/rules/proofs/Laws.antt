-- The laws of settlement hold of every life.
use Rattle.std.proofs.Common.{ℕ}
use Rattle.rank.specs.Laws.{Lawful}
use Rattle.rules.specs.Run.{Before, differences, deliveries, servings}
use Rattle.rules.specs.Life.{SettlementLaws}
use Rattle.rules.proofs.Fair.{PhasesWork, noon_exhausts, two_exhausts, noon_in_order, two_in_order}
use Rattle.rules.proofs.Phases.{phase_works, fit_differences, fit_deliveries, fit_servings, noon_works, two_works, noon_taken, two_taken}
use Rattle.rules.proofs.Moves.{noon_few, two_few}
use Rattle.rules.proofs.Lives.{RunLaws, settlement_laws}

phases_work : (rank : Before) → PhasesWork rank
phases_work rank s w =
    (phase_works differences fit_differences s w, phase_works (deliveries rank) (fit_deliveries rank) s w, phase_works (servings rank) (fit_servings rank) s w)

run_laws : (rank : Before) → ((p : ℕ) → Lawful (rank p)) → RunLaws rank
run_laws rank law = record {
  noon_works = noon_works rank;
  two_works = two_works rank;
  noon_exhausts = noon_exhausts rank;
  two_exhausts = two_exhausts rank;
  noon_in_order = noon_in_order rank law (phases_work rank);
  two_in_order = two_in_order rank law (phases_work rank);
  noon_taken = noon_taken rank;
  two_taken = two_taken rank;
  noon_few = noon_few rank;
  two_few = two_few rank;
}

pub laws : SettlementLaws
laws = settlement_laws run_laws
