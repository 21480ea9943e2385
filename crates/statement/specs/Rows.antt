-- Rows of amounts as text.
use Rattle.std.specs.Prelude.{ℕ, zero, suc, ◌+◌, ◌-◌, cond, List, [], ◌++◌, codes, decimal, Option}
use Rattle.book.specs.Ledger.{Ledger}
use Rattle.rules.specs.declared.fault.HouseFault.{HouseFault}
use Rattle.rules.specs.Faults.{Answer, is_accepted}
use Rattle.rules.specs.State.{State, settlement, collateral, contribution, cash, in_escrow}
use Rattle.desk.specs.Accounts.{own_account, own_word}
use Rattle.desk.specs.Asked.{unless_refused, asset_answer, member_asset_answer, member_security_answer}
use Rattle.desk.specs.declared.accounts.Own.{Own}

-- The amount n where a question is answered; 0 where it is refused.
abbrev pub if_told : Answer → ℕ → ℕ
if_told w n = cond (is_accepted w) n 0

-- The amounts of a house that was refused by o at its opening or not at all: what an account of its own holds of an asset, what a
-- member has of an asset in settlement, and what escrow holds of a security in a member's name.
abbrev pub own_amount : Option HouseFault → State → Own → ℕ → ℕ
own_amount o s own t = if_told (unless_refused o (asset_answer s.figures t)) (s.held (own_account own) t)

abbrev pub settled_amount : Option HouseFault → State → ℕ → ℕ → ℕ
settled_amount o s m t = if_told (unless_refused o (member_asset_answer s.figures m t)) (s.held (settlement m) t)

abbrev pub escrowed_amount : Option HouseFault → State → ℕ → ℕ → ℕ
escrowed_amount o s m t = if_told (unless_refused o (member_security_answer s.figures m t)) (in_escrow s.figures m t)

-- n amounts, from a place on, each after a space.
abbrev pub row_text : (ℕ → ℕ) → ℕ → ℕ → List ℕ
row_text amount from zero = []
row_text amount from (suc n) = row_text amount from n ++ (codes " " ++ decimal (amount (from + n)))

-- account A CASH S1 .. Sn
abbrev pub account_text : Ledger → ℕ → List ℕ
account_text b a = codes "account " ++ (decimal a ++ row_text (b.held a) 0 b.assets)

-- pool CASH S1 .. Sn, and so on, of n assets.
abbrev pub own_text : Option HouseFault → State → Own → ℕ → List ℕ
own_text o s own n = own_word own ++ row_text (own_amount o s own) 0 n

-- The cash of a member on an account of its own.
abbrev pub cash_on : Option HouseFault → State → ℕ → ℕ → ℕ
cash_on o s m account = if_told (unless_refused o (member_asset_answer s.figures m cash)) (s.held account cash)

-- collateral X contribution Y escrow E1 .. En
abbrev pub guarantee_text : ℕ → ℕ → List ℕ → List ℕ
guarantee_text pledged contributed escrowed =
    codes "collateral " ++ (decimal pledged ++ (codes " contribution " ++ (decimal contributed ++ (codes " escrow" ++ escrowed))))

-- member M settlement CASH S1 .. Sn GUARANTEE
abbrev pub member_text : ℕ → List ℕ → List ℕ → List ℕ
member_text m settled guarantee = codes "member " ++ (decimal m ++ (codes " settlement" ++ (settled ++ (codes " " ++ guarantee))))

-- What member m holds of n assets.
abbrev pub holdings_text : Option HouseFault → State → ℕ → ℕ → List ℕ
holdings_text o s m n =
    member_text m (row_text (settled_amount o s m) 0 n)
    (guarantee_text (cash_on o s m (collateral m)) (cash_on o s m (contribution m)) (row_text (escrowed_amount o s m) 1 (n - 1)))
