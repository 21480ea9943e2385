-- The state of a house: its figures and its book's balances.
use Rattle.std.specs.Prelude.{ℕ, suc, ◌+◌, ◌-◌, ◌*◌, Bool, false, List, [], get_or, replicate, ℤ, pos, negsuc, nat_lt, slice_index, slice_index_or, slice_set}
use Rattle.book.specs.Ledger.{Balances, sum_to}
use Rattle.register.specs.declared.line.Line.{Line}
use Rattle.register.specs.declared.Register.{Register}
use Rattle.register.specs.Limits.{register_places}
use Rattle.register.specs.Lines.{no_line, with_line}
use Rattle.rules.specs.declared.figures.Fail.{Fail}
use Rattle.rules.specs.declared.figures.Member.{Member}
use Rattle.rules.specs.declared.figures.Row.{Row}
use Rattle.rules.specs.declared.figures.Phase.TheVariants.{Morning}
use Rattle.rules.specs.declared.figures.Clock.{Clock}
use Rattle.rules.specs.declared.figures.Figures.{Figures}

-- The figures, and of the book its counts and balances. The book's space is no part of it: what an event leaves of that is open.
pub record State : Type 0 where
  pub figures : Figures
  pub accounts : ℕ
  pub assets : ℕ
  pub held : Balances

-- The accounts: the house has three, and each member three more.
abbrev pub pool : ℕ
pool = 0

abbrev pub escrow : ℕ
escrow = 1

abbrev pub reserve : ℕ
reserve = 2

abbrev pub settlement : ℕ → ℕ
settlement m = 3 * m

abbrev pub collateral : ℕ → ℕ
collateral m = 3 * m + 1

abbrev pub contribution : ℕ → ℕ
contribution m = 3 * m + 2

-- Asset 0 is cash, asset s is security s.
abbrev pub cash : ℕ
cash = 0

abbrev pub no_fail : Fail
no_fail = record { failed = false; growth = 0 }

abbrev pub no_member : Member
no_member = record {
  position = pos 0;
  advances = 0;
  charges = 0;
  shares = no_fail;
  cash = no_fail;
  requirement = 0;
  owed = 0;
  late = 0;
}

abbrev pub no_row : Row
no_row = record { shares = [] }

-- The record of a member, the shares that escrow holds in its name, the closing price of a security.
abbrev pub member : Figures → ℕ → Member
member f m = slice_index_or f.records m no_member

abbrev pub position : Figures → ℕ → ℤ
position f m = (member f m).position

abbrev pub in_escrow : Figures → ℕ → ℕ → ℕ
in_escrow f m s = slice_index (get_or f.escrow m no_row).shares s

abbrev pub close : Figures → ℕ → ℕ
close f s = slice_index f.closes s

abbrev pub today : Figures → ℕ
today f = f.clock.day

-- The part of a whole number above 0, and the part below.
abbrev pub above : ℤ → ℕ
above (pos n) = n
above (negsuc n) = 0

abbrev pub below : ℤ → ℕ
below (pos n) = 0
below (negsuc n) = suc n

-- The sum that a member owes: its position, if above 0, and its advances.
abbrev pub sum_owed : Figures → ℕ → ℕ
sum_owed f m = above (position f m) + (member f m).advances

abbrev pub owes : Figures → ℕ → Bool
owes f m = nat_lt 0 (sum_owed f m)

-- The sum of an asset over all accounts.
abbrev pub total_of : State → ℕ → ℕ
total_of s t = sum_to s.accounts (λ a. s.held a t)

-- What the member's collateral lacks of its requirement.
abbrev pub call : State → ℕ → ℕ
call s m = (member s.figures m).requirement - s.held (collateral m) cash

-- One part of the figures changed.
abbrev pub with_clock : Figures → Clock → Figures
with_clock f c = record { size = f.size; clock = c; register = f.register; records = f.records; escrow = f.escrow; closes = f.closes; fails = f.fails }

abbrev pub with_register : Figures → Register → Figures
with_register f g = record { size = f.size; clock = f.clock; register = g; records = f.records; escrow = f.escrow; closes = f.closes; fails = f.fails }

abbrev pub with_records : Figures → List Member → Figures
with_records f rs = record { size = f.size; clock = f.clock; register = f.register; records = rs; escrow = f.escrow; closes = f.closes; fails = f.fails }

abbrev pub with_rows : Figures → List Row → Figures
with_rows f rs = record { size = f.size; clock = f.clock; register = f.register; records = f.records; escrow = rs; closes = f.closes; fails = f.fails }

abbrev pub with_closes : Figures → List ℕ → Figures
with_closes f cs = record { size = f.size; clock = f.clock; register = f.register; records = f.records; escrow = f.escrow; closes = cs; fails = f.fails }

abbrev pub with_fails : Figures → ℕ → Figures
with_fails f n = record { size = f.size; clock = f.clock; register = f.register; records = f.records; escrow = f.escrow; closes = f.closes; fails = n }

-- One line, one member's record, one number of its escrow shares, one closing price changed.
abbrev pub put_line : Figures → ℕ → Line → Figures
put_line f i l = with_register f (with_line f.register i l)

abbrev pub put_member : Figures → ℕ → Member → Figures
put_member f m r = with_records f (slice_set f.records m r)

abbrev pub put_escrow : Figures → ℕ → ℕ → ℕ → Figures
put_escrow f m s n = with_rows f (slice_set f.escrow m (record { shares = slice_set (get_or f.escrow m no_row).shares s n }))

abbrev pub put_close : Figures → ℕ → ℕ → Figures
put_close f s p = with_closes f (slice_set f.closes s p)

abbrev pub with_figures : State → Figures → State
with_figures s f = record { figures = f; accounts = s.accounts; assets = s.assets; held = s.held }

abbrev pub with_balances : State → Balances → State
with_balances s h = record { figures = s.figures; accounts = s.accounts; assets = s.assets; held = h }

-- A member's record with another position, and so on.
abbrev pub at_position : Member → ℤ → Member
at_position r z = record {
  position = z;
  advances = r.advances;
  charges = r.charges;
  shares = r.shares;
  cash = r.cash;
  requirement = r.requirement;
  owed = r.owed;
  late = r.late;
}

abbrev pub at_advances : Member → ℕ → Member
at_advances r n = record {
  position = r.position;
  advances = n;
  charges = r.charges;
  shares = r.shares;
  cash = r.cash;
  requirement = r.requirement;
  owed = r.owed;
  late = r.late;
}

abbrev pub at_charges : Member → ℕ → Member
at_charges r n = record {
  position = r.position;
  advances = r.advances;
  charges = n;
  shares = r.shares;
  cash = r.cash;
  requirement = r.requirement;
  owed = r.owed;
  late = r.late;
}

abbrev pub at_requirement : Member → ℕ → Member
at_requirement r n = record {
  position = r.position;
  advances = r.advances;
  charges = r.charges;
  shares = r.shares;
  cash = r.cash;
  requirement = n;
  owed = r.owed;
  late = r.late;
}

abbrev pub at_late : Member → ℕ → Member
at_late r n = record {
  position = r.position;
  advances = r.advances;
  charges = r.charges;
  shares = r.shares;
  cash = r.cash;
  requirement = r.requirement;
  owed = r.owed;
  late = n;
}

-- The figures of a house of m members and s securities as it is opened: the morning of day 1, all else empty or 0.
abbrev pub opened_figures : ℕ → ℕ → Figures
opened_figures m s = record {
  size = record { members = m; securities = s };
  clock = record { day = 1; phase = Morning };
  register = record { count = 0; lines = replicate register_places no_line };
  records = replicate 25 no_member;
  escrow = replicate 25 (record { shares = replicate 17 0 });
  closes = replicate 17 0;
  fails = 0;
}

-- The state of such a house over an empty book.
abbrev pub opened : ℕ → ℕ → State
opened m s = record { figures = opened_figures m s; accounts = 3 * m + 3; assets = s + 1; held = λ a t. 0 }
