use Rattle.std.proofs.Common.{◌≡◌, ◌+◌, ◌-◌, refl, ap, ◌∙◌, arith}
use Rattle.book.specs.Ledger.{Balances, with_held}
use Rattle.book.specs.Movement.{Move}
use Rattle.book.proofs.Accepted.{move_accepted}
use Rattle.table.specs.Rows.{ledger, cell}
use Rattle.table.specs.Meaning.{grid_meaning}
use Rattle.table.proofs.Moved.{kept_by, balance_within}
use Rattle.table.proofs.grid.Grid.carry.Goals as goal

pub returns : goal.returns
returns c =
    let b = c.args.self.now in
    let a = c.args.from.account in
    let d = c.args.to in
    let s = c.args.from.asset in
    let n = c.args.amount in
    let f = cell b.rows in
    kept_by (Move a d s n) (grid_meaning b) (ledger b.accounts b.assets c.write-2.new.rows) refl refl refl
    (λ h ok. let x = h.few_accounts in let y = h.few_assets in let o = move_accepted (grid_meaning b) a d s n ok in
    let la = balance_within b.accounts b.assets b.rows a s h o.from in
    let ld = balance_within b.accounts b.assets b.rows d s h o.to in
    let v : c.saturating_sub.result ≡ cell b.rows a s - n = omega arith in
    let w : c.saturating_add.result ≡ cell b.rows d s + n = omega arith in
    c.write-2.ensures (omega arith) (omega arith)
    ∙ (ap (λ (g : Balances). with_held g d s c.saturating_add.result) (c.write.ensures (omega arith) (omega arith))
    ∙ (ap (λ z. with_held (with_held f a s z) d s c.saturating_add.result) v
    ∙ ap (λ z. with_held (with_held f a s (f a s - n)) d s z) w)))
