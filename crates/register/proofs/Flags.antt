-- The flag that a number stands for, from the flag that has the number.
use Rattle.std.proofs.Common.{◌≡◌, ℕ, Ok, Err, Result, sym, ap, ◌∙◌}
use Rattle.std.specs.Result.{result_unwrap_or}
use Rattle.std.proofs.lemmas.Bool.{ne_eqb, cond-false}
use Rattle.rank.specs.declared.key.Flag.{Flag}
use Rattle.rank.specs.declared.key.Flag.TheVariants.{LocalPrincipal, LocalClient, ForeignPrincipal, ForeignClient}
use Rattle.rank.specs.declared.key.NoFlag.{NoFlag}
use Rattle.rank.specs.Keys.{FlagNumbered}
use Rattle.register.specs.Netting.{flag_of}

pub flagged : (n : ℕ) (r : Result Flag NoFlag) → FlagNumbered n r → result_unwrap_or r ForeignClient ≡ flag_of n
flagged n (Ok LocalPrincipal) h = ap flag_of h
flagged n (Ok LocalClient) h = ap flag_of h
flagged n (Ok ForeignPrincipal) h = ap flag_of h
flagged n (Ok ForeignClient) h = ap flag_of h
flagged n (Err e) h =
    sym
    (cond-false _ _ _ (ne_eqb n 0 (λ q. h LocalPrincipal (sym q)))
    ∙ (cond-false _ _ _ (ne_eqb n 1 (λ q. h LocalClient (sym q))) ∙ cond-false _ _ _ (ne_eqb n 2 (λ q. h ForeignPrincipal (sym q)))))
