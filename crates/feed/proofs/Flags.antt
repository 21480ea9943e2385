-- What two letters say, by the flag that has them or that no flag has. Assumes nothing.
use Rattle.std.proofs.Common.{◌≡◌, ℕ, Bool, true, false, ◌&&◌, eqb, List, [], ◌∷◌, length, get_or, Ok, Err, Result, refl, subst, arith, eqb-true}
use Rattle.std.specs.Prelude.{◌≢◌}
use Rattle.std.specs.Result.{result_or}
use Rattle.rank.specs.declared.key.Flag.{Flag}
use Rattle.rank.specs.declared.key.Flag.TheVariants.{LocalPrincipal, LocalClient, ForeignPrincipal, ForeignClient}
use Rattle.rank.specs.declared.key.NoFlag.{NoFlag}
use Rattle.rank.specs.Keys.{flag_letters, FlagLettered}
use Rattle.feed.specs.declared.fault.FeedFault.TheVariants.{FlagLetters}
use Rattle.feed.specs.Readings.{Read, one_of}
use Rattle.feed.specs.Format.{flags}
use Rattle.feed.specs.Steps.{Gives, itself}

abbrev pub said : List ℕ → List ℕ → ℕ → Read Flag
said l bs q = one_of FlagLetters (flags (get_or l 0 0) (get_or l 1 0)) bs q

own_letters : (f : Flag) (bs : List ℕ) (q : ℕ) → said (flag_letters f) bs q ≡ Ok (f, q)
own_letters LocalPrincipal bs q = refl
own_letters LocalClient bs q = refl
own_letters ForeignPrincipal bs q = refl
own_letters ForeignClient bs q = refl

not_both : (a b x y : ℕ) → x ∷ y ∷ [] ≢ a ∷ b ∷ [] → eqb a x && eqb b y ≡ false
not_both a b x y n = by (eqb a x) (eqb b y) refl refl
  where
    by : (s t : Bool) → eqb a x ≡ s → eqb b y ≡ t → eqb a x && eqb b y ≡ false
    by true true h k = absurd (n (rw (eqb-true a x h, eqb-true b y k) refl))
    by true false h k = rw (h, k) refl
    by false t h k = rw h refl

no_letters : (l bs : List ℕ) (q : ℕ) → length l ≡ 2 → ((f : Flag) → flag_letters f ≢ l) → said l bs q ≡ Err FlagLetters
no_letters [] bs q h n = absurd (omega arith)
no_letters (a ∷ []) bs q h n = absurd (omega arith)
no_letters (a ∷ b ∷ []) bs q h n =
    rw (not_both a b 76 80 (n LocalPrincipal), not_both a b 76 67 (n LocalClient), not_both a b 70 80 (n ForeignPrincipal), not_both a b 70 67 (n ForeignClient)) refl
no_letters (a ∷ b ∷ c ∷ l) bs q h n = absurd (omega arith)

pub flag_said : (l bs : List ℕ) (q : ℕ) (r : Result Flag NoFlag) → length l ≡ 2 → FlagLettered l r → Gives itself (said l bs q) (result_or r (Err FlagLetters)) q
flag_said l bs q (Ok f) h w = subst (λ l. said l bs q ≡ Ok (f, q)) w (own_letters f bs q)
flag_said l bs q (Err e) h w = no_letters l bs q h w
