use Rattle.std.proofs.Common.{refl}
use Rattle.rules.proofs.examples_hold.Goals as goal

pub returns : goal.returns
returns c = record {
  netted_quantities = refl;
  netted_monies = refl;
  differences_at_close = refl;
  noon_serves = refl;
  noon_pays = refl;
  two_pays = refl;
  late_charges = refl;
  fail_charges = refl;
  growths = refl;
  grown_charges = refl;
  position_to_pay = refl;
  means_to_pay = refl;
  reserve_advances = refl;
  share_in_escrow = refl;
  key_of_a_line = refl;
  compensations = (refl, refl);
  too_early = refl;
  in_time = refl;
}
