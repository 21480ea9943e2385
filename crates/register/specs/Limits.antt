-- The limits of lines and trades, each named once.
use Rattle.std.specs.Prelude.{ℕ}

-- Shares of one trade, and of one line either way.
abbrev pub most_quantity : ℕ
most_quantity = 100000000

-- Centavos for one share.
abbrev pub most_price : ℕ
most_price = 1000000

-- Netted money of one line, either way.
abbrev pub most_money : ℕ
most_money = 100000000000000

abbrev pub register_places : ℕ
register_places = 512

-- A trade falls due so many days after its own.
abbrev pub days_to_due : ℕ
days_to_due = 3
