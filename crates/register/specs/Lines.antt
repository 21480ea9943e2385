-- The register: lines at places, and sums over them.
use Rattle.std.specs.Prelude.{ℕ, zero, suc, ◌-◌, Bool, cond, ◌&&◌, ℤ, pos, ◌+ℤ◌, neg_ℤ, ◌==◌, nat_le, slice_index_or, slice_set}
use Rattle.book.specs.Ledger.{sum_to}
use Rattle.rank.specs.declared.key.Flag.TheVariants.{LocalPrincipal}
use Rattle.rank.specs.declared.key.Key.{Key}
use Rattle.rank.specs.Claims.{is_delivering, is_receiving}
use Rattle.register.specs.declared.line.Line.{Line}
use Rattle.register.specs.declared.Register.{Register}

-- A line without any trade.
abbrev pub blank : Key → Line
blank k = record {
  claim = record { key = k; quantity = pos 0; price = 0 };
  money = pos 0;
  highest = 0;
  lowest = 0;
  price = 0;
  difference = pos 0;
  rest = 0;
  delivered = 0;
}

abbrev pub no_line : Line
no_line = blank (record { due = 0; security = 0; member = 0; flag = LocalPrincipal })

-- The line at a place, and its key.
abbrev pub line : Register → ℕ → Line
line g i = slice_index_or g.lines i no_line

abbrev pub key : Register → ℕ → Key
key g i = (line g i).claim.key

-- z 0 + .. + z (n - 1)
abbrev pub sum_z : ℕ → (ℕ → ℤ) → ℤ
sum_z zero z = pos 0
sum_z (suc n) z = sum_z n z +ℤ z n

-- The sum of a number over the lines of the register that pass a test, and of a signed number.
abbrev pub sum_if : (Line → Bool) → (Line → ℕ) → Register → ℕ
sum_if p n g = sum_to g.count (λ i. cond (p (line g i)) (n (line g i)) 0)

abbrev pub sum_z_if : (Line → Bool) → (Line → ℤ) → Register → ℤ
sum_z_if p z g = sum_z g.count (λ i. cond (p (line g i)) (z (line g i)) (pos 0))

-- Lines of a due day and security, by side; lines of a member; lines due by a day.
abbrev pub delivers : Line → Bool
delivers l = is_delivering l.claim

abbrev pub receives : Line → Bool
receives l = is_receiving l.claim

abbrev pub in_group : ℕ → ℕ → Line → Bool
in_group d s l = l.claim.key.due == d && l.claim.key.security == s

abbrev pub of_member : ℕ → Line → Bool
of_member m l = l.claim.key.member == m

abbrev pub due_by : ℕ → Line → Bool
due_by d l = nat_le l.claim.key.due d

abbrev pub rest_of : Line → ℕ
rest_of l = l.rest

-- Shares to deliver and to receive for a due day and security.
abbrev pub to_deliver : Register → ℕ → ℕ → ℕ
to_deliver g d s = sum_if (λ l. delivers l && in_group d s l) rest_of g

abbrev pub to_receive : Register → ℕ → ℕ → ℕ
to_receive g d s = sum_if (λ l. receives l && in_group d s l) rest_of g

-- What the pool has in hand for a due day and security: delivered, and not yet handed on.
abbrev pub in_hand : Register → ℕ → ℕ → ℕ
in_hand g d s = to_receive g d s - to_deliver g d s

-- A line's rest with the sign of its side.
abbrev pub signed_rest : Line → ℤ
signed_rest l = cond (receives l) (neg_ℤ (pos l.rest)) (pos l.rest)

-- One line changed.
abbrev pub with_line : Register → ℕ → Line → Register
with_line g i l = record { count = g.count; lines = slice_set g.lines i l }
