-- The numbers in the rows of a table, and what they mean with its counts.
use Rattle.std.specs.Prelude.{ℕ, List, [], slice_index, slice_index_or}
use Rattle.book.specs.Ledger.{Balances, Ledger, Sound, most_space}
use Rattle.table.specs.declared.rows.Row.{Row}

-- The number for an account and an asset: 0 beyond the rows.
abbrev pub cell : List Row → Balances
cell rows a s = slice_index (slice_index_or rows a (record { cells = [] })).cells s

-- The largest number of 64 bits.
abbrev pub most_number : ℕ
most_number = 18446744073709551615

-- What so many accounts and assets with these rows mean. The space is always the same.
abbrev pub ledger : ℕ → ℕ → List Row → Ledger
ledger accounts assets rows = record { accounts = accounts; assets = assets; space = most_space; held = cell rows }

-- A table as contracts see it. Every table is sound.
pub record Seen : Type 0 where
  pub accounts : ℕ
  pub assets : ℕ
  pub rows : List Row
  pub sound : Sound (ledger accounts assets rows)
