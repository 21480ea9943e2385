-- The two ranks of the rules: which of two lines goes before.
use Rattle.std.specs.Prelude.{ℕ, ◌+◌, ◌*◌, ◌%◌, ◌^◌, Bool, cond, ◌==◌, nat_lt}
use Rattle.rank.specs.declared.key.Key.{Key}
use Rattle.rank.specs.declared.claim.Claim.{Claim}
use Rattle.rank.specs.Keys.{key_number}
use Rattle.rank.specs.Claims.{is_receiving, size_of}

-- The smaller of two numbers goes first; where they are equal, what comes next decides.
abbrev pub smaller_first : ℕ → ℕ → Bool → Bool
smaller_first x y next = cond (x == y) next (nat_lt x y)

abbrev pub larger_first : ℕ → ℕ → Bool → Bool
larger_first x y next = smaller_first y x next

-- Among receivers the higher order price goes first, among deliverers the lower.
abbrev pub better_price_first : Claim → Claim → Bool → Bool
better_price_first a b next =
    cond (is_receiving a) (larger_first a.price b.price next) (smaller_first a.price b.price next)

-- The smaller key goes first.
abbrev pub by_key : Claim → Claim → Bool
by_key a b = nat_lt (key_number a.key) (key_number b.key)

-- Odd, so that keys of one due day and security draw differently.
abbrev pub multiplier : ℕ
multiplier = 2654435761

abbrev pub draws : ℕ
draws = 2 ^ 32

-- The draw of a key, at a seed.
abbrev pub draw_of : ℕ → Key → ℕ
draw_of s k = ((key_number k + s) * multiplier) % draws

-- The smaller draw goes first.
abbrev pub by_draw : ℕ → Claim → Claim → Bool
by_draw s a b = nat_lt (draw_of s a.key) (draw_of s b.key)

-- The Annex rank: the better order price first, then the smaller netted size, then the smaller draw.
abbrev pub annex_goes : ℕ → Claim → Claim → Bool
annex_goes s a b = better_price_first a b (smaller_first (size_of a) (size_of b) (by_draw s a b))

-- The former rank: the larger size × settlement price first, then the smaller key.
abbrev pub former_goes : ℕ → Claim → Claim → Bool
former_goes p a b = larger_first (size_of a * p) (size_of b * p) (by_key a b)
