-- A posting: a movement between accounts that a book takes or leaves, where it has space.
use Rattle.std.specs.Prelude.{ℕ, Bool, cond, not, ◌&&◌, ◌==◌, nat_le, nat_lt}
use Rattle.book.specs.Ledger.{Balances}
use Rattle.book.specs.Movement.{Move, good_amount, after}

-- Whether a book of these counts and balances takes a movement of n from account a to account c, where it has space.
abbrev pub takes_move : ℕ → ℕ → Balances → ℕ → ℕ → ℕ → ℕ → Bool
takes_move accounts assets f a c s n =
    nat_lt a accounts && (nat_lt c accounts && (not (a == c) && (nat_lt s assets && (good_amount n && nat_le n (f a s)))))

-- The balances after such a movement where it is taken, else as they were.
abbrev pub posted : ℕ → ℕ → Balances → ℕ → ℕ → ℕ → ℕ → Balances
posted accounts assets f a c s n = cond (takes_move accounts assets f a c s n) (after f (Move a c s n)) f
