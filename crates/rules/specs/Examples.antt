-- Worked examples, computed from the definitions.
use Rattle.std.specs.Prelude.{◌≡◌, ℕ, false, List, [], ◌∷◌, ◌++◌, map, ℤ, pos, neg_ℤ}
use Rattle.rank.specs.declared.key.Flag.TheVariants.{LocalClient}
use Rattle.rank.specs.Keys.{key_number}
use Rattle.rank.specs.Ranks.{annex_goes}
use Rattle.register.specs.Lines.{line}
use Rattle.rules.specs.declared.event.Event.{Event}
use Rattle.rules.specs.declared.event.Event.TheVariants.{Bring, Endow, Pledge, Contribute, Novate, Price, Noon, Two, End, CashSettle}
use Rattle.rules.specs.Faults.{Answer, accepted, refused, house_layer}
use Rattle.rules.specs.State.{State, reserve, settlement, collateral, contribution, cash, member, position, in_escrow, opened}
use Rattle.rules.specs.Run.{Before, performed, in_phases, differences, deliveries, servings}
use Rattle.rules.specs.Day.{compensation}
use Rattle.rules.specs.Events.{answer}
use Rattle.rules.specs.Life.{lived}

-- The Annex rank with seed 0, over a book with space enough.
abbrev pub annex : Before
annex p a b = annex_goes 0 a b

abbrev pub roomy : ℕ
roomy = 4294967295

abbrev pub after_events : State → List Event → State
after_events s es = lived annex s (map (λ e. record { event = e; space = roomy }) es)

-- A trade among principals of the house's own market.
abbrev pub trade : ℕ → ℕ → ℕ → ℕ → Event
trade seller buyer quantity price =
    Novate (record { buyer = buyer; buyer_flag = 0; seller = seller; seller_flag = 0; security = 1; quantity = quantity; price = price })

abbrev pub run_day : List Event
run_day = Noon ∷ Two ∷ End ∷ []

-- What the examples look at: quantity, money, difference and rest of the first lines.
abbrev pub nets : State → List ℤ
nets s = map (λ i. (line s.figures.register i).claim.quantity) (0 ∷ 1 ∷ 2 ∷ [])

abbrev pub monies : State → List ℤ
monies s = map (λ i. (line s.figures.register i).money) (0 ∷ 1 ∷ 2 ∷ [])

abbrev pub differences_of : State → List ℤ
differences_of s = map (λ i. (line s.figures.register i).difference) (0 ∷ 1 ∷ 2 ∷ [])

abbrev pub rests_of : State → List ℕ
rests_of s = map (λ i. (line s.figures.register i).rest) (0 ∷ 1 ∷ 2 ∷ [])

abbrev pub cash_of : State → ℕ → ℕ
cash_of s m = s.held (settlement m) cash

abbrev pub charges_of : State → List ℕ
charges_of s = map (λ m. (member s.figures m).charges) (1 ∷ 2 ∷ 3 ∷ [])

-- Day 1: member 1 sells member 2 a hundred at 1,000; member 2 sells member 3 forty at 1,100.
abbrev pub day_one : State
day_one = after_events (opened 3 1) (trade 1 2 100 1000 ∷ trade 2 3 40 1100 ∷ [])

-- The close is 1,050.
abbrev pub day_two : State
day_two = after_events day_one (Price 1 1050 ∷ run_day)

-- Day 4, in the morning: member 1 holds 70 shares, member 2 has 56,000, member 3 has 44,000.
abbrev pub day_four : State
day_four = after_events day_two (run_day ++ (run_day ++ (Bring 1 1 70 ∷ Bring 2 0 56000 ∷ Bring 3 0 44000 ∷ [])))

abbrev pub noon_of_four : State
noon_of_four = after_events day_four (Noon ∷ [])

-- The missing 30 shares come after noon, or they never come.
abbrev pub late_delivery : State
late_delivery = after_events noon_of_four (Bring 1 1 30 ∷ Two ∷ [])

abbrev pub failed_delivery : State
failed_delivery = after_events noon_of_four (Two ∷ [])

abbrev pub failed_again : State
failed_again = after_events failed_delivery (End ∷ Noon ∷ Two ∷ [])

-- Cash settlement without risk declared, on day 6 and on day 7.
abbrev pub day_six : State
day_six = after_events failed_again (End ∷ [])

abbrev pub day_seven : State
day_seven = after_events day_six run_day

abbrev pub cash_answer : State → Answer
cash_answer s = answer s (CashSettle 4 1 1001 false) roomy

-- A share for 500: in the morning the buyer has 200 in settlement, 100 of collateral and 50 of contribution; the reserve has 1,000.
abbrev pub short_of_cash : State
short_of_cash =
    after_events (opened 2 1) (
    trade 1 2 1 500 ∷ Price 1 500 ∷ run_day ++ (run_day ++ (run_day ++ (
    Bring 1 1 1 ∷ Bring 2 0 350 ∷ Pledge 2 100 ∷ Contribute 2 50 ∷ Endow 1000 ∷ []))))

-- Its noon before the payments, and when it has ended.
abbrev pub share_served : State
share_served = performed short_of_cash (in_phases (differences ∷ deliveries annex ∷ servings annex ∷ []) short_of_cash)

abbrev pub reserve_drawn : State
reserve_drawn = after_events short_of_cash (Noon ∷ [])

pub record WorkedExamples : Type 0 where
  pub netted_quantities : nets day_one ≡ (neg_ℤ (pos 60) ∷ pos 100 ∷ neg_ℤ (pos 40) ∷ [])
  pub netted_monies : monies day_one ≡ (neg_ℤ (pos 56000) ∷ pos 100000 ∷ neg_ℤ (pos 44000) ∷ [])
  pub differences_at_close : differences_of day_two ≡ (pos 7000 ∷ neg_ℤ (pos 5000) ∷ neg_ℤ (pos 2000) ∷ [])
  -- Noon of day 4 serves member 3 with its 40 and member 2 with 30, and pays member 1 68,500.
  pub noon_serves : rests_of noon_of_four ≡ (30 ∷ 30 ∷ 0 ∷ [])
  pub noon_pays : cash_of noon_of_four 1 ≡ 68500
  -- Then two pays member 1 31,500 and charges it 100,039.
  pub two_pays : cash_of late_delivery 1 ≡ 100000
  pub late_charges : charges_of late_delivery ≡ (100039 ∷ 0 ∷ 0 ∷ [])
  -- Without them member 1 is charged 100,078, and 78 the next day.
  pub fail_charges : charges_of failed_delivery ≡ (100078 ∷ 0 ∷ 0 ∷ [])
  pub growths : map (λ s. (member s.figures 1).shares.growth) (failed_delivery ∷ failed_again ∷ []) ≡ (78 ∷ 156 ∷ [])
  -- By then member 1 has paid 68,500 of its charges.
  pub grown_charges : charges_of failed_again ≡ (31656 ∷ 0 ∷ 0 ∷ [])
  -- A position of 500 is paid from 200, 100 and 50; the reserve advances 150, and the share stays in escrow.
  pub position_to_pay : position share_served.figures 2 ≡ pos 500
  pub means_to_pay : map (λ a. share_served.held a cash) (settlement 2 ∷ collateral 2 ∷ contribution 2 ∷ reserve ∷ []) ≡ (200 ∷ 100 ∷ 50 ∷ 1000 ∷ [])
  pub reserve_advances : (member reserve_drawn.figures 2).advances ≡ 150
  pub share_in_escrow : in_escrow reserve_drawn.figures 2 1 ≡ 1
  -- Due day 4, security 1, member 2, LC.
  pub key_of_a_line : key_number (record { due = 4; security = 1; member = 2; flag = LocalClient }) ≡ 65801
  pub compensations : (compensation 1001 ≡ 1102) × (compensation 1000 ≡ 1100)
  pub too_early : cash_answer day_six ≡ refused house_layer 16
  pub in_time : cash_answer day_seven ≡ accepted
