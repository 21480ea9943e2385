-- The limits of a house, each named once.
use Rattle.std.specs.Prelude.{ℕ}

abbrev pub most_members : ℕ
most_members = 24

abbrev pub most_securities : ℕ
most_securities = 16

-- A party whose position and advances are larger trades no more.
abbrev pub most_position : ℕ
most_position = 1000000000000000

abbrev pub last_day : ℕ
last_day = 200000

-- The fixed part of a charge.
abbrev pub fixed_charge : ℕ
fixed_charge = 100000

abbrev pub most_charges : ℕ
most_charges = 4000000000

abbrev pub most_growth : ℕ
most_growth = 1000000000000000
