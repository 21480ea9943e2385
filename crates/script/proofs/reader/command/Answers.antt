use Rattle.std.proofs.Common.{rules, ◌≡◌, codes, ap, ◌∙◌}
use Rattle.script.specs.Forms.{told}
use Rattle.script.proofs.Names.{seven, eight}
use Rattle.script.proofs.reader.command.Goals as goal

pub returns-in_ok-byte-in-balance-2 : goal.returns-in_ok-byte-in-balance-2
returns-in_ok-byte-in-balance-2 c =
    let named : c.args.name.now ≡ codes "balance" = search (rules, seven) in
    ap (λ w. told w c.args.words.now) named ∙ search rules

pub returns-in-balances : goal.returns-in-balances
returns-in-balances c =
    let named : c.args.name.now ≡ codes "balances" = search (rules, eight) in
    ap (λ w. told w c.args.words.now) named
