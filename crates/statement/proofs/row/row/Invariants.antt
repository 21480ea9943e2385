use Rattle.std.proofs.Common.{◌≡◌, ℕ, ◌-◌, ◌≤◌, max, string_bytes}
use Rattle.statement.specs.Rows.{row_text}
use Rattle.statement.specs.contracts.row.row.F-Fn as called
use Rattle.statement.proofs.row.row.Given as goal

abbrev pub invariant-loop-place : goal.invariant-loop-place
invariant-loop-place g l =
    (l.place ≤ max l.from l.to) ×
    ((a : ℕ → ℕ) → ((p n : ℕ) → (called.words g.row.F g.F.Fn).post l.amount p n → n ≡ a p)
    → string_bytes l.text ≡ row_text a l.from (l.place - l.from))
