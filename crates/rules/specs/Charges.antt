-- What a member is charged at two, on four values.
use Rattle.std.specs.Prelude.{ℕ, ◌+◌, ◌*◌, ◌/◌, min, Bool, cond, not, ◌&&◌, nat_lt}
use Rattle.rules.specs.declared.figures.Fail.{Fail}
use Rattle.rules.specs.declared.figures.Member.{Member}
use Rattle.rules.specs.declared.figures.Figures.{Figures}
use Rattle.rules.specs.Limits.{fixed_charge, most_charges, most_growth}
use Rattle.rules.specs.State.{member, close, today, sum_owed, put_member, with_fails}
use Rattle.register.specs.Lines.{sum_if, delivers, of_member, due_by}

-- Late shares: what the member's lines delivered since noon ended, at the standing closing price.
abbrev pub late_shares : Figures → ℕ → ℕ
late_shares f m = sum_if (of_member m) (λ l. l.delivered * close f l.claim.key.security) f.register

-- Late cash: what the member has paid, since noon ended, of the sum that it owed then.
abbrev pub late_cash : Figures → ℕ → ℕ
late_cash f m = (member f m).late

-- Failed shares: the member's rests to deliver that are due by today, at the standing closing price.
abbrev pub failed_shares : Figures → ℕ → ℕ
failed_shares f m =
    sum_if (λ l. of_member m l && (delivers l && due_by (today f) l)) (λ l. l.rest * close f l.claim.key.security) f.register

-- Failed cash: the sum that the member owes.
abbrev pub failed_cash : Figures → ℕ → ℕ
failed_cash f m = sum_owed f m

-- What a late value costs.
abbrev pub late_charge : ℕ → ℕ
late_charge v = cond (nat_lt 0 v) (fixed_charge + v / 800) 0

-- What a failed value costs, the fixed part aside: this is also what the growth rises by.
abbrev pub growing : Fail → ℕ → ℕ
growing k v = (v + k.growth) / 400

-- A fail begins where the kind had not failed at the two before.
abbrev pub begins : Fail → ℕ → Bool
begins k v = nat_lt 0 v && not k.failed

abbrev pub fail_charge : Fail → ℕ → ℕ
fail_charge k v = cond (nat_lt 0 v) (growing k v + cond k.failed 0 fixed_charge) 0

-- What is remembered of the kind: a value of 0 clears the growth.
abbrev pub remembered : Fail → ℕ → Fail
remembered k v = record { failed = nat_lt 0 v; growth = cond (nat_lt 0 v) (min (k.growth + growing k v) most_growth) 0 }

abbrev pub all_charges : Figures → ℕ → ℕ
all_charges f m =
    late_charge (late_shares f m) + late_charge (late_cash f m)
    + fail_charge (member f m).shares (failed_shares f m) + fail_charge (member f m).cash (failed_cash f m)

-- The member's record after it is charged: charges are cut at their limit once all four values are added.
abbrev pub charged_record : Figures → ℕ → Member
charged_record f m = record {
  position = (member f m).position;
  advances = (member f m).advances;
  charges = min ((member f m).charges + all_charges f m) most_charges;
  shares = remembered (member f m).shares (failed_shares f m);
  cash = remembered (member f m).cash (failed_cash f m);
  requirement = (member f m).requirement;
  owed = (member f m).owed;
  late = (member f m).late;
}

abbrev pub fails_begun : Figures → ℕ → ℕ
fails_begun f m =
    cond (begins (member f m).shares (failed_shares f m)) 1 0 + cond (begins (member f m).cash (failed_cash f m)) 1 0

abbrev pub charged : Figures → ℕ → Figures
charged f m = with_fails (put_member f m (charged_record f m)) (f.fails + fails_begun f m)
