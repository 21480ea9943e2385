use Rattle.std.proofs.Common.{◌≡◌, ◌-◌, refl, ap, ◌∙◌, arith}
use Rattle.book.specs.Ledger.{with_held}
use Rattle.book.specs.Movement.{Pull}
use Rattle.book.proofs.Accepted.{pull_accepted}
use Rattle.table.specs.Rows.{ledger, cell}
use Rattle.table.specs.Meaning.{grid_meaning}
use Rattle.table.proofs.Moved.{kept_by}
use Rattle.table.proofs.grid.Grid.debit.Goals as goal

pub returns : goal.returns
returns c =
    let b = c.args.self.now in
    let a = c.args.place.account in
    let s = c.args.place.asset in
    let n = c.args.amount in
    kept_by (Pull a s n) (grid_meaning b) (ledger b.accounts b.assets c.write.new.rows) refl refl refl
    (λ h ok. let x = h.few_accounts in let y = h.few_assets in let o = pull_accepted (grid_meaning b) a s n ok in
    let v : c.saturating_sub.result ≡ cell b.rows a s - n = omega arith in
    c.write.ensures (omega arith) (omega arith) ∙ ap (λ z. with_held (cell b.rows) a s z) v)
