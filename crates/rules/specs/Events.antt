-- Every event: when it is refused, and what it leaves.
use Rattle.std.specs.Prelude.{ℕ, ◌+◌, ◌*◌, Bool, true, false, cond, not, ◌&&◌, ◌||◌, ltb, leb, List, [], ◌∷◌, ◌==◌, nat_eq, nat_le, nat_lt, unsigned_abs}
use Rattle.book.specs.Refusals.{Refusal, ◌when◌}
use Rattle.book.specs.Faults.{from_one_to}
use Rattle.book.specs.Ledger.{Ledger, Balances, sum_to, most_amount}
use Rattle.book.specs.Movement.{Movement, Put, Pull, Move, good_amount, after}
use Rattle.book.specs.declared.fault.BookFault.TheVariants.{NoSpace, TooLittle, TooMuch}
use Rattle.rules.specs.declared.fault.HouseFault.{HouseFault}
use Rattle.rules.specs.declared.fault.HouseFault.TheVariants.{NoMember, NoAsset, NoFlag, BadAmount, WrongPhase, Bound, BelowRequirement, NoPlace, LineTooLarge, PositionTooLarge, NoClose, NothingOpen, TooEarly, LastDay, UnfitBook, BadCounts, Book}
use Rattle.register.specs.declared.trade.Trade.{Trade}
use Rattle.rules.specs.declared.event.Event.{Event}
use Rattle.rules.specs.declared.event.Event.TheVariants.{Bring, Take, Endow, Pledge, Refund, Contribute, Novate, Price, Noon, Two, End, BuyIn, SellOut, CashSettle}
use Rattle.rules.specs.declared.figures.Phase.{Phase}
use Rattle.rules.specs.declared.figures.Phase.TheVariants.{Morning, Late, Shut}
use Rattle.register.specs.declared.Register.{Register}
use Rattle.rules.specs.declared.figures.Figures.{Figures}
use Rattle.rules.specs.Limits.{most_members, most_securities, most_position, last_day}
use Rattle.register.specs.Limits.{most_quantity, most_price, register_places}
use Rattle.rules.specs.Faults.{Answer, answer_by}
use Rattle.rules.specs.State.{State, total_of, reserve, settlement, collateral, contribution, cash, member, position, in_escrow, close, today, owes, call, put_close, with_clock, with_register, with_figures, with_balances}
use Rattle.register.specs.Lines.{sum_if, delivers, in_group, rest_of}
use Rattle.register.specs.Netting.{due_day, line_of, buyer_key, trade_filed, trade_too_large}
use Rattle.rules.specs.Run.{Before, Act, performed, in_phases, noon_run, two_run}
use Rattle.rules.specs.Day.{traded_today, ended_day, cash_settlements}

-- Members and securities are numbered from 1, assets from 0, flags from 0 to 3.
abbrev pub no_such_member : Figures → ℕ → Bool
no_such_member f m = not (from_one_to f.size.members m)

abbrev pub no_such_security : Figures → ℕ → Bool
no_such_security f t = not (from_one_to f.size.securities t)

abbrev pub no_such_asset : Figures → ℕ → Bool
no_such_asset f t = nat_lt f.size.securities t

abbrev pub no_such_flag : ℕ → Bool
no_such_flag n = nat_lt 3 n

abbrev pub bad_amount : ℕ → Bool
bad_amount n = not (good_amount n)

abbrev pub bad_quantity : ℕ → Bool
bad_quantity q = not (from_one_to most_quantity q)

abbrev pub bad_price : ℕ → Bool
bad_price p = not (from_one_to most_price p)

-- What the book answers: no space, the asset's sum would pass its limit, the account holds too little.
abbrev pub no_space : ℕ → Bool
no_space space = space == 0

abbrev pub too_much : State → ℕ → ℕ → Bool
too_much s t n = nat_lt most_amount (total_of s t + n)

abbrev pub too_little : State → ℕ → ℕ → ℕ → Bool
too_little s a t n = nat_lt (s.held a t) n

-- A member that owes, has charges or an unmet call may take nothing.
abbrev pub is_bound : State → ℕ → Bool
is_bound s m = owes s.figures m || (nat_lt 0 (member s.figures m).charges || nat_lt 0 (call s m))

-- The phases.
abbrev pub is_morning : Phase → Bool
is_morning Morning = true
is_morning Late = false
is_morning Shut = false

abbrev pub is_late : Phase → Bool
is_late Morning = false
is_late Late = true
is_late Shut = false

abbrev pub is_shut : Phase → Bool
is_shut Morning = false
is_shut Late = false
is_shut Shut = true

-- The space that noon or two may need: two movements for each line, and for each member one for each security and six more.
abbrev pub run_space : Figures → ℕ
run_space f = 2 * f.register.count + f.size.members * (f.size.securities + 6)

-- What is wrong with a trade as such.
abbrev pub trade_refusals : Figures → Trade → List (Refusal HouseFault) → List (Refusal HouseFault)
trade_refusals f t more =
    NoMember when (no_such_member f t.buyer || no_such_member f t.seller) ∷
    NoAsset when no_such_security f t.security ∷
    NoFlag when (no_such_flag t.buyer_flag || no_such_flag t.seller_flag) ∷
    BadAmount when (bad_quantity t.quantity || bad_price t.price) ∷ more

-- The register with a trade of today.
abbrev pub register_traded : Figures → Trade → Register
register_traded f t = trade_filed f.register (due_day (today f)) t

-- A position so large that its member trades no more.
abbrev pub position_too_large : Figures → ℕ → Bool
position_too_large f m = nat_lt most_position (unsigned_abs (position f m) + (member f m).advances)

-- Where a trade would find no place, or make a line or find a position too large.
abbrev pub netting_refusals : Figures → Trade → List (Refusal HouseFault)
netting_refusals f t =
    NoPlace when ltb register_places (register_traded f t).count ∷
    LineTooLarge when trade_too_large f.register (due_day (today f)) t ∷
    PositionTooLarge when (position_too_large f t.buyer || position_too_large f t.seller) ∷ []

-- A buy-in is open where the buyer's line of that due day delivers, fell due before today and has at least the quantity as rest.
abbrev pub buy_in_open : Figures → ℕ → Trade → Bool
buy_in_open f due t =
    let l = line_of f.register (buyer_key due t) in
    delivers l && (nat_lt due (today f) && nat_le t.quantity l.rest)

-- A sell-out is open where the seller owes and escrow holds the quantity in its name.
abbrev pub sell_out_open : Figures → Trade → Bool
sell_out_open f t = owes f t.seller && nat_le t.quantity (in_escrow f t.seller t.security)

-- Whether a line of today has no closing price yet.
abbrev pub unpriced : Figures → Bool
unpriced f = nat_lt 0 (sum_if (λ l. traded_today f l && close f l.claim.key.security == 0) (λ l. 1) f.register)

-- Cash settlement opens the day after the due day where risk is declared, else two days later.
abbrev pub cash_day : ℕ → Bool → ℕ
cash_day due risk = due + cond risk 1 3

-- The refusals of each event in their order, in a state and at the space that the book shows.
abbrev pub event_refusals : State → Event → ℕ → List (Refusal HouseFault)
event_refusals s (Bring m t n) space =
    NoMember when no_such_member s.figures m ∷
    NoAsset when no_such_asset s.figures t ∷
    BadAmount when bad_amount n ∷
    Book NoSpace when no_space space ∷
    Book TooMuch when too_much s t n ∷ []
event_refusals s (Take m t n) space =
    NoMember when no_such_member s.figures m ∷
    NoAsset when no_such_asset s.figures t ∷
    BadAmount when bad_amount n ∷
    Bound when is_bound s m ∷
    Book NoSpace when no_space space ∷
    Book TooLittle when too_little s (settlement m) t n ∷ []
event_refusals s (Endow n) space =
    BadAmount when bad_amount n ∷
    Book NoSpace when no_space space ∷
    Book TooMuch when too_much s cash n ∷ []
event_refusals s (Pledge m n) space =
    NoMember when no_such_member s.figures m ∷
    BadAmount when bad_amount n ∷
    Book NoSpace when no_space space ∷
    Book TooLittle when too_little s (settlement m) cash n ∷ []
event_refusals s (Refund m n) space =
    NoMember when no_such_member s.figures m ∷
    BadAmount when bad_amount n ∷
    BelowRequirement when ltb (s.held (collateral m) cash) ((member s.figures m).requirement + n) ∷
    Book NoSpace when no_space space ∷ []
event_refusals s (Contribute m n) space =
    NoMember when no_such_member s.figures m ∷
    BadAmount when bad_amount n ∷
    Book NoSpace when no_space space ∷
    Book TooLittle when too_little s (settlement m) cash n ∷ []
event_refusals s (Novate t) space = trade_refusals s.figures t (netting_refusals s.figures t)
event_refusals s (Price t p) space =
    NoAsset when no_such_security s.figures t ∷
    BadAmount when bad_price p ∷ []
event_refusals s Noon space =
    WrongPhase when not (is_morning s.figures.clock.phase) ∷
    Book NoSpace when ltb space (run_space s.figures) ∷ []
event_refusals s Two space =
    WrongPhase when not (is_late s.figures.clock.phase) ∷
    Book NoSpace when ltb space (run_space s.figures) ∷ []
event_refusals s End space =
    WrongPhase when not (is_shut s.figures.clock.phase) ∷
    LastDay when leb last_day (today s.figures) ∷
    NoClose when unpriced s.figures ∷ []
event_refusals s (BuyIn due t) space =
    trade_refusals s.figures t (
    WrongPhase when not (is_morning s.figures.clock.phase) ∷
    NothingOpen when not (buy_in_open s.figures due t) ∷
    netting_refusals s.figures t)
event_refusals s (SellOut t) space =
    trade_refusals s.figures t (
    WrongPhase when not (is_morning s.figures.clock.phase) ∷
    NothingOpen when not (sell_out_open s.figures t) ∷
    netting_refusals s.figures t)
event_refusals s (CashSettle due t highest risk) space =
    NoAsset when no_such_security s.figures t ∷
    BadAmount when bad_price highest ∷
    TooEarly when ltb (today s.figures) (cash_day due risk) ∷
    NothingOpen when nat_eq (sum_if (in_group due t) rest_of s.figures.register) 0 ∷ []

abbrev pub answer : State → Event → ℕ → Answer
answer s e space = answer_by (event_refusals s e space)

-- The acts of an event that may move something: those of a run.
abbrev pub acts : Before → State → Event → List Act
acts rank s (Bring m t n) = []
acts rank s (Take m t n) = []
acts rank s (Endow n) = []
acts rank s (Pledge m n) = []
acts rank s (Refund m n) = []
acts rank s (Contribute m n) = []
acts rank s (Novate t) = []
acts rank s (Price t p) = []
acts rank s Noon = in_phases (noon_run rank) s
acts rank s Two = in_phases (two_run rank) s
acts rank s End = []
acts rank s (BuyIn due t) = []
acts rank s (SellOut t) = []
acts rank s (CashSettle due t highest risk) = []

-- The movement that an event asks of the book by itself, where it asks for one.
abbrev pub asked : Event → List Movement
asked (Bring m t n) = Put (settlement m) t n ∷ []
asked (Take m t n) = Pull (settlement m) t n ∷ []
asked (Endow n) = Put reserve cash n ∷ []
asked (Pledge m n) = Move (settlement m) (collateral m) cash n ∷ []
asked (Refund m n) = Move (collateral m) (settlement m) cash n ∷ []
asked (Contribute m n) = Move (settlement m) (contribution m) cash n ∷ []
asked (Novate t) = []
asked (Price t p) = []
asked Noon = []
asked Two = []
asked End = []
asked (BuyIn due t) = []
asked (SellOut t) = []
asked (CashSettle due t highest risk) = []

abbrev pub after_all : Balances → List Movement → Balances
after_all h [] = h
after_all h (m ∷ ms) = after_all (after h m) ms

abbrev pub balances_asked : State → Event → State
balances_asked s e = with_balances s (after_all s.held (asked e))

abbrev pub traded : State → Trade → State
traded s t = with_figures s (with_register s.figures (register_traded s.figures t))

abbrev pub in_phase : State → Phase → State
in_phase s p = with_figures s (with_clock s.figures (record { day = today s.figures; phase = p }))

-- The state after an accepted event.
abbrev pub effect : Before → State → Event → State
effect rank s (Bring m t n) = balances_asked s (Bring m t n)
effect rank s (Take m t n) = balances_asked s (Take m t n)
effect rank s (Endow n) = balances_asked s (Endow n)
effect rank s (Pledge m n) = balances_asked s (Pledge m n)
effect rank s (Refund m n) = balances_asked s (Refund m n)
effect rank s (Contribute m n) = balances_asked s (Contribute m n)
effect rank s (Novate t) = traded s t
effect rank s (Price t p) = with_figures s (put_close s.figures t p)
effect rank s Noon = in_phase (performed s (acts rank s Noon)) Late
effect rank s Two = in_phase (performed s (acts rank s Two)) Shut
effect rank s End = ended_day s
effect rank s (BuyIn due t) = traded s t
effect rank s (SellOut t) = traded s t
effect rank s (CashSettle due t highest risk) = performed s (cash_settlements s due t highest)

-- Opening a house over a book: the counts of members and securities, then whether the book suits and is empty.
abbrev pub book_sum : Ledger → ℕ
book_sum b = sum_to b.accounts (λ a. sum_to b.assets (λ t. b.held a t))

abbrev pub suits : Ledger → ℕ → ℕ → Bool
suits b m s = b.accounts == 3 * m + 3 && (b.assets == s + 1 && book_sum b == 0)

abbrev pub open_answer : Ledger → ℕ → ℕ → Answer
open_answer b m s =
    answer_by (
    BadCounts when not (from_one_to most_members m && from_one_to most_securities s) ∷
    UnfitBook when not (suits b m s) ∷ [])
