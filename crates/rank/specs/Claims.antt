-- What a rank reads of a line.
use Rattle.std.specs.Prelude.{ℕ, Bool, cond, pos, int_lt, unsigned_abs}
use Rattle.rank.specs.declared.claim.Claim.{Claim}

abbrev pub is_delivering : Claim → Bool
is_delivering c = int_lt (pos 0) c.quantity

abbrev pub is_receiving : Claim → Bool
is_receiving c = int_lt c.quantity (pos 0)

-- The sides: 0 of lines that deliver, 1 of lines that receive; lines netted to nothing are on one of their own.
abbrev pub side : Claim → ℕ
side c = cond (is_receiving c) 1 (cond (is_delivering c) 0 2)

-- The netted size.
abbrev pub size_of : Claim → ℕ
size_of c = unsigned_abs c.quantity
