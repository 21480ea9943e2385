-- The bounds of the figures: every number fits its type, in every state of every life, whatever the book.
use Rattle.std.specs.Prelude.{◌≡◌, ℕ, ◌+◌, ◌-◌, ◌*◌, ◌<◌, ◌≤◌, Bool, cond, ◌&&◌, length, pos, ◌==◌, slice_index_or, unsigned_abs}
use Rattle.register.specs.declared.line.Line.{Line}
use Rattle.rules.specs.declared.figures.Member.{Member}
use Rattle.rules.specs.declared.figures.Figures.{Figures}
use Rattle.rules.specs.Limits.{most_members, most_securities, most_charges, most_growth, last_day}
use Rattle.register.specs.Limits.{most_quantity, most_price, most_money, register_places}
use Rattle.rules.specs.State.{State, no_row, member, position, in_escrow, close, today, opened_figures}
use Rattle.register.specs.Lines.{line, of_member, due_by, rest_of, sum_if}
use Rattle.register.specs.Netting.{due_day}
use Rattle.rules.specs.Run.{Before}
use Rattle.rules.specs.Events.{is_shut}
use Rattle.rules.specs.Life.{Entry, next}

-- Counts in range and arrays of their lengths.
pub record Shape (f : Figures) : Type 0 where
  pub some_member : 0 < f.size.members
  pub few_members : f.size.members ≤ most_members
  pub some_security : 0 < f.size.securities
  pub few_securities : f.size.securities ≤ most_securities
  pub some_day : 0 < today f
  pub last : today f ≤ last_day
  pub few_lines : f.register.count ≤ register_places
  pub places : length f.register.lines ≡ register_places
  pub records : length f.records ≡ 25
  pub rows : length f.escrow ≡ 25
  pub cells : (m : ℕ) → m < 25 → length (slice_index_or f.escrow m no_row).shares ≡ 17
  pub closes : length f.closes ≡ 17

-- A line names a member and a security of the house and a day that trades can fall due on.
pub record Known (f : Figures) (l : Line) : Type 0 where
  pub some_member : 0 < l.claim.key.member
  pub member_known : l.claim.key.member ≤ f.size.members
  pub some_security : 0 < l.claim.key.security
  pub security_known : l.claim.key.security ≤ f.size.securities
  pub due_known : l.claim.key.due ≤ due_day (today f)

abbrev pub most_difference : ℕ
most_difference = 200000000000000

-- The numbers of a line. A line of an earlier day has a settlement price, one of today has none; without one there is no difference.
pub record LineFits (f : Figures) (l : Line) : Type 0 where
  pub known : Known f l
  pub quantity : unsigned_abs l.claim.quantity ≤ most_quantity
  pub money : unsigned_abs l.money ≤ most_money
  pub order : l.claim.price ≤ most_price
  pub highest : l.highest ≤ most_price
  pub lowest : l.lowest ≤ most_price
  pub price : l.price ≤ most_price
  pub priced : l.claim.key.due < due_day (today f) → 0 < l.price
  pub unpriced : l.claim.key.due ≡ due_day (today f) → l.price ≡ 0
  pub plain : l.price ≡ 0 → l.difference ≡ pos 0
  pub difference : unsigned_abs l.difference ≤ most_difference
  pub rest : l.rest + l.delivered ≤ unsigned_abs l.claim.quantity

-- The largest compensation for a share.
abbrev pub most_compensation : ℕ
most_compensation = 1100000

-- What a line can still add to its member's position. Until it has a settlement price that is counted as the most that it can be then.
abbrev pub full_weight : ℕ
full_weight = 310000000000000

abbrev pub weight : Line → ℕ
weight l = cond (l.price == 0) full_weight (unsigned_abs l.difference + l.rest * most_compensation)

-- The most that a member's position, its advances and the weights of its lines come to.
abbrev pub most_weight : ℕ
most_weight = 200000000000000000

pub record MemberFits (r : Member) : Type 0 where
  pub charges : r.charges ≤ most_charges
  pub shares : r.shares.growth ≤ most_growth
  pub cash : r.cash.growth ≤ most_growth
  pub requirement : r.requirement ≤ most_weight
  pub owed : r.owed ≤ most_weight
  pub late : r.late ≤ r.owed

-- Lines of a member and security that are due by a day.
abbrev pub due_of : ℕ → ℕ → ℕ → Line → Bool
due_of m t d l = of_member m l && (l.claim.key.security == t && due_by d l)

-- The most shares that fall due on one day.
abbrev pub most_due : ℕ
most_due = 51200000000

-- What every act of a run keeps, too.
pub record Bounds (f : Figures) : Type 0 where
  pub shape : Shape f
  pub lines : (i : ℕ) → i < f.register.count → LineFits f (line f.register i)
  pub members : (m : ℕ) → m < 25 → MemberFits (member f m)
  pub prices : (t : ℕ) → close f t ≤ most_price
  pub weights : (m : ℕ) → m < 25 → unsigned_abs (position f m) + (member f m).advances + sum_if (of_member m) weight f.register ≤ most_weight
  pub escrow : (m t : ℕ) → in_escrow f m t + sum_if (due_of m t (today f)) rest_of f.register ≤ today f * most_due

-- Fails that can have begun: two for each member at each two.
abbrev pub most_fails : Figures → ℕ
most_fails f = 48 * (today f - 1) + cond (is_shut f.clock.phase) 48 0

pub record Fit (f : Figures) : Type 0 where
  pub bounds : Bounds f
  pub fails : f.fails ≤ most_fails f

-- The bounds hold of an opened house, and every event keeps them, also in a state that no life reaches.
abbrev pub BoundsKept : Type 0
BoundsKept =
    ((m s : ℕ) → 0 < m → m ≤ most_members → 0 < s → s ≤ most_securities → Fit (opened_figures m s)) ×
    ((rank : Before) (s : State) (x : Entry) → Fit s.figures → Fit (next rank s x).figures)
