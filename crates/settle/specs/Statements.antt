-- The balances of a book as text.
use Rattle.std.specs.Prelude.{ℕ, zero, suc, List, [], ◌++◌, codes, decimal}
use Rattle.book.specs.Ledger.{Ledger}

-- What account a holds of the first n assets, each number after a space.
abbrev pub holdings : Ledger → ℕ → ℕ → List ℕ
holdings b a zero = []
holdings b a (suc n) = holdings b a n ++ (codes " " ++ decimal (b.held a n))

-- The line of account a, as far as the first n assets.
abbrev pub line_to : Ledger → ℕ → ℕ → List ℕ
line_to b a n = (codes "account " ++ decimal a) ++ holdings b a n

abbrev pub account_text : Ledger → ℕ → List ℕ
account_text b a = line_to b a b.assets
