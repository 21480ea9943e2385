use Rattle.std.proofs.Common.{◌≡◌, ◌+◌, refl, ap, ◌∙◌, arith}
use Rattle.book.specs.Ledger.{with_held}
use Rattle.book.specs.Movement.{Put}
use Rattle.book.proofs.Accepted.{put_accepted}
use Rattle.table.specs.Rows.{ledger, cell}
use Rattle.table.specs.Meaning.{grid_meaning}
use Rattle.table.proofs.Moved.{kept_by, balance_within}
use Rattle.table.proofs.grid.Grid.credit.Goals as goal

pub returns : goal.returns
returns c =
    let b = c.args.self.now in
    let a = c.args.place.account in
    let s = c.args.place.asset in
    let n = c.args.amount in
    kept_by (Put a s n) (grid_meaning b) (ledger b.accounts b.assets c.write.new.rows) refl refl refl
    (λ h ok. let x = h.few_accounts in let y = h.few_assets in let o = put_accepted (grid_meaning b) a s n ok in
    let l = balance_within b.accounts b.assets b.rows a s h o.account in
    let v : c.saturating_add.result ≡ cell b.rows a s + n = omega arith in
    c.write.ensures (omega arith) (omega arith) ∙ ap (λ z. with_held (cell b.rows) a s z) v)
