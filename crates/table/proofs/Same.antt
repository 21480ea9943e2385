-- Tables of the same counts and rows are the same, whichever proofs say that they are sound.
use Rattle.std.proofs.Common.{◌≡◌}
use mathlib.Core.HLevel.{is_prop→PathP}
use Rattle.std.proofs.Math.Bridge.{le_prop}
use Rattle.std.proofs.Math.Nat.{ℕ_set}
use Rattle.book.specs.Ledger.{Ledger, Sound}
use Rattle.table.specs.declared.Table.{Table}
use Rattle.table.specs.Rows.{ledger}

pub sound_prop : (b : Ledger) → IsProp (Sound b)
sound_prop b p q = λ i. record {
  some_account = le_prop p.some_account q.some_account i;
  few_accounts = le_prop p.few_accounts q.few_accounts i;
  some_asset = le_prop p.some_asset q.some_asset i;
  few_assets = le_prop p.few_assets q.few_assets i;
  space_within = le_prop p.space_within q.space_within i;
  total_within = λ s. le_prop (p.total_within s) (q.total_within s) i;
  no_account = λ a s l. ℕ_set _ _ (p.no_account a s l) (q.no_account a s l) i;
  no_asset = λ a s l. ℕ_set _ _ (p.no_asset a s l) (q.no_asset a s l) i;
}

pub same_table : (a b : Table) → a.accounts ≡ b.accounts → a.assets ≡ b.assets → a.rows ≡ b.rows → a ≡ b
same_table a b ea es er = λ i. record {
  accounts = ea i;
  assets = es i;
  rows = er i;
  sound = is_prop→PathP (λ j. Sound (ledger (ea j) (es j) (er j))) (λ j. sound_prop (ledger (ea j) (es j) (er j))) a.sound b.sound i;
}
