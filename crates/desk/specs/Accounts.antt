-- The accounts of a house on its book, by number, and the words for its own.
use Rattle.std.specs.Prelude.{ℕ, List, codes}
use Rattle.rules.specs.State.{pool, escrow, reserve, settlement, collateral, contribution}
use Rattle.desk.specs.declared.accounts.Own.{Own}
use Rattle.desk.specs.declared.accounts.Own.TheVariants.{Pool, Escrow, Reserve}
use Rattle.desk.specs.declared.accounts.Purse.{Purse}
use Rattle.desk.specs.declared.accounts.Purse.TheVariants.{Settlement, Collateral, Contribution}

abbrev pub own_account : Own → ℕ
own_account Pool = pool
own_account Escrow = escrow
own_account Reserve = reserve

abbrev pub account_of : Purse → ℕ → ℕ
account_of Settlement = settlement
account_of Collateral = collateral
account_of Contribution = contribution

abbrev pub own_word : Own → List ℕ
own_word Pool = codes "pool"
own_word Escrow = codes "escrow"
own_word Reserve = codes "reserve"
