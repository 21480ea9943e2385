-- What an accepted movement says of its arguments.
use Rattle.std.proofs.Common.{◌≡◌, ℕ, ◌+◌, ◌<◌, ◌≤◌, arith}
use Rattle.std.proofs.lemmas.Bool.Decides.{nat_tests}
use Rattle.book.specs.Ledger.{Ledger, total, most_amount}
use Rattle.book.specs.Movement.{Put, Pull, Move, movement_number}

pub record PutAccepted (b : Ledger) (a s n : ℕ) : Type 0 where
  pub account : a < b.accounts
  pub asset : s < b.assets
  pub space : 0 < b.space
  pub within : total b s + n ≤ most_amount

pub put_accepted : (b : Ledger) (a s n : ℕ) → movement_number b (Put a s n) ≡ 0 → PutAccepted b a s n
put_accepted b a s n e = record { account = grind (arith, nat_tests); asset = grind (arith, nat_tests); space = grind (arith, nat_tests); within = grind (arith, nat_tests) }

pub record PullAccepted (b : Ledger) (a s n : ℕ) : Type 0 where
  pub account : a < b.accounts
  pub asset : s < b.assets
  pub space : 0 < b.space
  pub enough : n ≤ b.held a s

pub pull_accepted : (b : Ledger) (a s n : ℕ) → movement_number b (Pull a s n) ≡ 0 → PullAccepted b a s n
pull_accepted b a s n e = record { account = grind (arith, nat_tests); asset = grind (arith, nat_tests); space = grind (arith, nat_tests); enough = grind (arith, nat_tests) }

pub record MoveAccepted (b : Ledger) (a c s n : ℕ) : Type 0 where
  pub from : a < b.accounts
  pub to : c < b.accounts
  pub apart : a ≡ c → ⊥
  pub asset : s < b.assets
  pub space : 0 < b.space
  pub enough : n ≤ b.held a s

pub move_accepted : (b : Ledger) (a c s n : ℕ) → movement_number b (Move a c s n) ≡ 0 → MoveAccepted b a c s n
move_accepted b a c s n e =
    record {
      from = grind (arith, nat_tests);
      to = grind (arith, nat_tests);
      apart = λ q. grind (arith, nat_tests);
      asset = grind (arith, nat_tests);
      space = grind (arith, nat_tests);
      enough = grind (arith, nat_tests);
    }
