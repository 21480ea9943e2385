-- A run: acts one after the other, each with its posting.
use Rattle.std.specs.Prelude.{ℕ, zero, suc, ◌+◌, ◌-◌, ◌*◌, ◌/◌, min, Bool, cond, ◌&&◌, ◌||◌, List, [], ◌∷◌, ◌++◌, map, ℤ, pos, ◌+ℤ◌, ◌-ℤ◌, ◌*ℤ◌, ◌==◌, nat_eq, nat_lt}
use Rattle.book.specs.Ledger.{sum_to}
use Rattle.book.specs.Posting.{posted}
use Rattle.rank.specs.declared.claim.Claim.{Claim}
use Rattle.rank.specs.Claims.{side}
use Rattle.rank.specs.Order.{insert}
use Rattle.register.specs.declared.line.Line.{Line}
use Rattle.rules.specs.declared.figures.Member.{Member}
use Rattle.register.specs.declared.Register.{Register}
use Rattle.rules.specs.declared.figures.Figures.{Figures}
use Rattle.rules.specs.State.{State, pool, escrow, reserve, settlement, collateral, contribution, cash, member, position, in_escrow, close, today, above, below, sum_owed, owes, put_line, put_member, put_escrow, at_position, at_advances, at_charges, at_requirement, at_late}
use Rattle.register.specs.Lines.{line, key, sum_z_if, signed_rest, of_member, delivers, receives, due_by, in_hand}
use Rattle.rules.specs.Charges.{charged}

-- Which of two lines of one side, due day and security goes before, at their settlement price.
abbrev pub Before : Type 0
Before = ℕ → Claim → Claim → Bool

-- Whence a member's payment comes.
pub data Source : Type 0 where
  own : Source
  from_collateral : Source
  from_contribution : Source
  from_reserve : Source

-- One step for one line (by its place) or one member.
pub data Act : Type 0 where
  -- The line's difference goes to its member's position.
  settle : ℕ → Act
  -- The line delivers from its member's settlement account, or from escrow in the member's name.
  give : ℕ → Act
  give_escrow : ℕ → Act
  -- The line is served, into escrow.
  serve : ℕ → Act
  -- The member's position is paid from a source.
  pay : ℕ → Source → Act
  -- The member is paid out its share.
  pay_out : ℕ → ℕ → Act
  -- The member repays advances, and pays charges.
  repay : ℕ → Act
  pay_charges : ℕ → Act
  -- The member gets its escrow shares of a security, if it owes nothing.
  pass : ℕ → ℕ → Act
  -- Noon ends for a line and for a member: what comes later is late.
  mark_line : ℕ → Act
  mark : ℕ → Act
  -- The member is charged.
  charge : ℕ → Act
  -- The line's rest is settled in cash, at a compensation for a share.
  compensate : ℕ → ℕ → Act
  -- The day ends for a line traded today, and for a member.
  close_line : ℕ → Act
  require : ℕ → Act

-- What an act moves: how much, from where, to where, of which asset. An act that moves nothing has the amount 0.
abbrev pub source_account : ℕ → Source → ℕ
source_account m own = settlement m
source_account m from_collateral = collateral m
source_account m from_contribution = contribution m
source_account m from_reserve = reserve

abbrev pub amount : State → Act → ℕ
amount s (settle i) = 0
amount s (give i) = let l = line s.figures.register i in min l.rest (s.held (settlement l.claim.key.member) l.claim.key.security)
amount s (give_escrow i) = let l = line s.figures.register i in min l.rest (in_escrow s.figures l.claim.key.member l.claim.key.security)
amount s (serve i) = let l = line s.figures.register i in min l.rest (in_hand s.figures.register l.claim.key.due l.claim.key.security)
amount s (pay m from) = min (above (position s.figures m)) (s.held (source_account m from) cash)
-- A share is no larger than what the member is to be paid: in a life the two agree.
amount s (pay_out m n) = min n (below (position s.figures m))
amount s (repay m) = min (member s.figures m).advances (s.held (settlement m) cash)
amount s (pay_charges m) = min (member s.figures m).charges (s.held (settlement m) cash)
amount s (pass m t) = cond (owes s.figures m) 0 (in_escrow s.figures m t)
amount s (mark_line i) = 0
amount s (mark m) = 0
amount s (charge m) = 0
amount s (compensate i c) = 0
amount s (close_line i) = 0
amount s (require m) = 0

abbrev pub from_account : Figures → Act → ℕ
from_account f (settle i) = pool
from_account f (give i) = settlement (key f.register i).member
from_account f (give_escrow i) = escrow
from_account f (serve i) = pool
from_account f (pay m from) = source_account m from
from_account f (pay_out m n) = pool
from_account f (repay m) = settlement m
from_account f (pay_charges m) = settlement m
from_account f (pass m t) = escrow
from_account f (mark_line i) = pool
from_account f (mark m) = pool
from_account f (charge m) = pool
from_account f (compensate i c) = pool
from_account f (close_line i) = pool
from_account f (require m) = pool

abbrev pub to_account : Figures → Act → ℕ
to_account f (settle i) = pool
to_account f (give i) = pool
to_account f (give_escrow i) = pool
to_account f (serve i) = escrow
to_account f (pay m from) = pool
to_account f (pay_out m n) = settlement m
to_account f (repay m) = reserve
to_account f (pay_charges m) = reserve
to_account f (pass m t) = settlement m
to_account f (mark_line i) = pool
to_account f (mark m) = pool
to_account f (charge m) = pool
to_account f (compensate i c) = pool
to_account f (close_line i) = pool
to_account f (require m) = pool

abbrev pub moved_asset : Figures → Act → ℕ
moved_asset f (settle i) = cash
moved_asset f (give i) = (key f.register i).security
moved_asset f (give_escrow i) = (key f.register i).security
moved_asset f (serve i) = (key f.register i).security
moved_asset f (pay m from) = cash
moved_asset f (pay_out m n) = cash
moved_asset f (repay m) = cash
moved_asset f (pay_charges m) = cash
moved_asset f (pass m t) = t
moved_asset f (mark_line i) = cash
moved_asset f (mark m) = cash
moved_asset f (charge m) = cash
moved_asset f (compensate i c) = cash
moved_asset f (close_line i) = cash
moved_asset f (require m) = cash

-- A line after x of its shares are delivered, or served.
abbrev pub line_given : Line → ℕ → Line
line_given l x = record {
  claim = l.claim;
  money = l.money;
  highest = l.highest;
  lowest = l.lowest;
  price = l.price;
  difference = l.difference;
  rest = l.rest - x;
  delivered = l.delivered + x;
}

abbrev pub line_served : Line → ℕ → Line
line_served l x = record {
  claim = l.claim;
  money = l.money;
  highest = l.highest;
  lowest = l.lowest;
  price = l.price;
  difference = l.difference;
  rest = l.rest - x;
  delivered = l.delivered;
}

abbrev pub line_settled : Line → Line
line_settled l = record {
  claim = l.claim;
  money = l.money;
  highest = l.highest;
  lowest = l.lowest;
  price = l.price;
  difference = pos 0;
  rest = l.rest;
  delivered = l.delivered;
}

abbrev pub line_marked : Line → Line
line_marked l = record {
  claim = l.claim;
  money = l.money;
  highest = l.highest;
  lowest = l.lowest;
  price = l.price;
  difference = l.difference;
  rest = l.rest;
  delivered = 0;
}

-- What a line's member is to pay more when its rest is settled in cash at c for a share: a line that receives is paid.
abbrev pub compensation_due : Line → ℕ → ℤ
compensation_due l c = signed_rest l *ℤ (pos c -ℤ pos l.price)

-- A line traded today when the day ends: the standing closing price is its settlement price.
abbrev pub line_closed : Figures → Line → Line
line_closed f l =
    let p = close f l.claim.key.security in
    record {
      claim = l.claim;
      money = l.money;
      highest = l.highest;
      lowest = l.lowest;
      price = p;
      difference = l.money -ℤ l.claim.quantity *ℤ pos p;
      rest = l.rest;
      delivered = l.delivered;
    }

-- What a member's line would cost the house today, were the member to leave: its rest at the change of price, less its difference.
abbrev pub exposure : Figures → Line → ℤ
exposure f l = signed_rest l *ℤ (pos (close f l.claim.key.security) -ℤ pos l.price) -ℤ l.difference

-- The collateral that a member's lines require.
abbrev pub required : Figures → ℕ → ℕ
required f m = above (sum_z_if (of_member m) (exposure f) f.register)

-- A position changed.
abbrev pub moved_position : Figures → ℕ → ℤ → Figures
moved_position f m z = put_member f m (at_position (member f m) z)

-- Some x more paid since noon, of the sum owed then.
abbrev pub paid_more : Member → ℕ → Member
paid_more r x = at_late r (min r.owed (r.late + x))

-- A member's record after x of its position is paid from a source.
abbrev pub record_paid : Member → Source → ℕ → Member
record_paid r own x = paid_more (at_position r (r.position -ℤ pos x)) x
record_paid r from_collateral x = at_position r (r.position -ℤ pos x)
record_paid r from_contribution x = at_position r (r.position -ℤ pos x)
record_paid r from_reserve x = at_advances (at_position r (r.position -ℤ pos x)) (r.advances + x)

-- A member's record when noon ends.
abbrev pub record_marked : Figures → ℕ → Member
record_marked f m = record {
  position = (member f m).position;
  advances = (member f m).advances;
  charges = (member f m).charges;
  shares = (member f m).shares;
  cash = (member f m).cash;
  requirement = (member f m).requirement;
  owed = sum_owed f m;
  late = 0;
}

-- The figures after an act that moves x.
abbrev pub noted : Figures → Act → ℕ → Figures
noted f (settle i) x =
    let l = line f.register i in
    let m = l.claim.key.member in
    moved_position (put_line f i (line_settled l)) m (position f m -ℤ l.difference)
noted f (give i) x =
    let l = line f.register i in
    let m = l.claim.key.member in
    moved_position (put_line f i (line_given l x)) m (position f m -ℤ pos (x * l.price))
noted f (give_escrow i) x =
    let l = line f.register i in
    let m = l.claim.key.member in
    let s = l.claim.key.security in
    put_escrow (moved_position (put_line f i (line_given l x)) m (position f m -ℤ pos (x * l.price))) m s (in_escrow f m s - x)
noted f (serve i) x =
    let l = line f.register i in
    let m = l.claim.key.member in
    let s = l.claim.key.security in
    put_escrow (moved_position (put_line f i (line_served l x)) m (position f m +ℤ pos (x * l.price))) m s (in_escrow f m s + x)
noted f (pay m from) x = put_member f m (record_paid (member f m) from x)
noted f (pay_out m n) x = moved_position f m (position f m +ℤ pos x)
noted f (repay m) x = put_member f m (paid_more (at_advances (member f m) ((member f m).advances - x)) x)
noted f (pay_charges m) x = put_member f m (at_charges (member f m) ((member f m).charges - x))
noted f (pass m t) x = put_escrow f m t (in_escrow f m t - x)
noted f (mark_line i) x = put_line f i (line_marked (line f.register i))
noted f (mark m) x = put_member f m (record_marked f m)
noted f (charge m) x = charged f m
noted f (compensate i c) x =
    let l = line f.register i in
    let m = l.claim.key.member in
    moved_position (put_line f i (line_served l l.rest)) m (position f m +ℤ compensation_due l c)
noted f (close_line i) x = put_line f i (line_closed f (line f.register i))
noted f (require m) x = put_member f m (at_requirement (member f m) (required f m))

-- The state after an act. A posting of 0 is not made; one that the book would refuse alters no balance, and in a life there is none.
abbrev pub after_act : State → Act → State
after_act s a = record {
  figures = noted s.figures a (amount s a);
  accounts = s.accounts;
  assets = s.assets;
  held = posted s.accounts s.assets s.held (from_account s.figures a) (to_account s.figures a) (moved_asset s.figures a) (amount s a);
}

abbrev pub performed : State → List Act → State
performed s [] = s
performed s (a ∷ more) = performed (after_act s a) more

-- Something holds of each act in the state that it finds.
abbrev pub Along : (State → Act → Type 0) → State → List Act → Type 0
Along P s [] = Unit {0}
Along P s (a ∷ more) = P s a × Along P (after_act s a) more

-- 0 .. n - 1, and 1 .. n
abbrev pub upto : ℕ → List ℕ
upto zero = []
upto (suc n) = upto n ++ (n ∷ [])

abbrev pub from_one : ℕ → List ℕ
from_one n = map suc (upto n)

abbrev pub each : {A B : Type 0} → (A → List B) → List A → List B
each f [] = []
each f (x ∷ xs) = f x ++ each f xs

-- By one number, the smaller first, and then by what follows.
abbrev pub first_by : ℕ → ℕ → Bool → Bool
first_by x y next = nat_lt x y || (x == y && next)

-- The order of lines in a run: by side, due day and security, then by rank.
abbrev pub goes_before : Before → Line → Line → Bool
goes_before rank a b =
    first_by (side a.claim) (side b.claim)
    (first_by a.claim.key.due b.claim.key.due
    (first_by a.claim.key.security b.claim.key.security (rank a.price a.claim b.claim)))

-- The places of the first n lines that pass a test, in that order.
abbrev pub ordered : Before → Register → (Line → Bool) → ℕ → List ℕ
ordered rank g p zero = []
ordered rank g p (suc n) =
    cond (p (line g n)) (insert (λ i j. goes_before rank (line g i) (line g j)) n (ordered rank g p n)) (ordered rank g p n)

abbrev pub in_run : Before → Figures → (Line → Bool) → List ℕ
in_run rank f p = ordered rank f.register p f.register.count

abbrev pub delivering : Figures → Line → Bool
delivering f l = delivers l && due_by (today f) l

abbrev pub receiving : Figures → Line → Bool
receiving f l = receives l && due_by (today f) l

-- The places of the first n lines that pass a test, by place.
abbrev pub places_if : (Line → Bool) → Register → ℕ → List ℕ
places_if p g zero = []
places_if p g (suc n) = places_if p g n ++ cond (p (line g n)) (n ∷ []) []

-- Lines that fall due today.
abbrev pub due_today : Figures → List ℕ
due_today f = places_if (λ l. nat_eq l.claim.key.due (today f)) f.register f.register.count

-- A phase lists its acts from the state that it finds; a run is its phases one after the other.
abbrev pub PhaseActs : Type 0
PhaseActs = State → List Act

abbrev pub in_phases : List PhaseActs → State → List Act
in_phases [] s = []
in_phases (p ∷ ps) s = p s ++ in_phases ps (performed s (p s))

abbrev pub all_members : State → List ℕ
all_members s = from_one s.figures.size.members

abbrev pub all_securities : State → List ℕ
all_securities s = from_one s.figures.size.securities

abbrev pub all_places : State → List ℕ
all_places s = upto s.figures.register.count

-- What all members below 0 are to be paid.
abbrev pub need : State → ℕ
need s = sum_to (suc s.figures.size.members) (λ m. below (position s.figures m))

-- A member's share of the pool's cash: pro rata, the whole part.
abbrev pub share : State → ℕ → ℕ
share s m = (below (position s.figures m) * s.held pool cash) / need s

abbrev pub differences : PhaseActs
differences s = map settle (due_today s.figures)

-- A line delivers from settlement first, then from escrow.
abbrev pub deliveries_of : ℕ → List Act
deliveries_of i = give i ∷ give_escrow i ∷ []

abbrev pub deliveries : Before → PhaseActs
deliveries rank s = each deliveries_of (in_run rank s.figures (delivering s.figures))

abbrev pub servings : Before → PhaseActs
servings rank s = map serve (in_run rank s.figures (receiving s.figures))

-- A member pays from its settlement account, then its collateral, its contribution, and the reserve.
abbrev pub payments_of : ℕ → List Act
payments_of m = pay m own ∷ pay m from_collateral ∷ pay m from_contribution ∷ pay m from_reserve ∷ []

abbrev pub payments : PhaseActs
payments s = each payments_of (all_members s)

abbrev pub payouts : PhaseActs
payouts s = map (λ m. pay_out m (share s m)) (all_members s)

-- A member repays advances, then pays charges.
abbrev pub repayments_of : ℕ → List Act
repayments_of m = repay m ∷ pay_charges m ∷ []

abbrev pub repayments : PhaseActs
repayments s = each repayments_of (all_members s)

abbrev pub passings_of : State → ℕ → List Act
passings_of s m = map (pass m) (all_securities s)

abbrev pub passings : PhaseActs
passings s = each (passings_of s) (all_members s)

abbrev pub marks : PhaseActs
marks s = map mark_line (all_places s) ++ map mark (all_members s)

abbrev pub chargings : PhaseActs
chargings s = map charge (all_members s)

-- The steps that noon and two share.
abbrev pub steps : Before → List PhaseActs → List PhaseActs
steps rank last =
    deliveries rank ∷ servings rank ∷ payments ∷ payouts ∷ repayments ∷ passings ∷ last

abbrev pub noon_run : Before → List PhaseActs
noon_run rank = differences ∷ steps rank (marks ∷ [])

abbrev pub two_run : Before → List PhaseActs
two_run rank = steps rank (chargings ∷ [])
