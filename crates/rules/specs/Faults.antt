-- The layer and the number of each refusal.
use Rattle.std.specs.Prelude.{ℕ, Bool, true, false, List, Ok, Err, Result}
use Rattle.book.specs.Refusals.{Refusal, first}
use Rattle.book.specs.Faults.{fault_number}
use Rattle.rules.specs.declared.fault.Layer.{Layer as CodeLayer}
use Rattle.rules.specs.declared.fault.Layer.TheVariants as code_layer
use Rattle.rules.specs.declared.fault.HouseFault.{HouseFault}
use Rattle.rules.specs.declared.fault.HouseFault.TheVariants.{NoMember, NoAsset, NoFlag, BadAmount, WrongPhase, Bound, BelowRequirement, NoPlace, LineTooLarge, PositionTooLarge, NoClose, NothingOpen, TooEarly, LastDay, UnfitBook, BadCounts, Book}

-- Where a refusal arose.
pub data Layer : Type 0 where
  book_layer : Layer
  house_layer : Layer

pub data Answer : Type 0 where
  accepted : Answer
  refused : Layer → ℕ → Answer

abbrev pub refusal : HouseFault → Answer
refusal NoMember = refused house_layer 1
refusal NoAsset = refused house_layer 2
refusal NoFlag = refused house_layer 3
refusal BadAmount = refused house_layer 4
refusal WrongPhase = refused house_layer 5
refusal Bound = refused house_layer 9
refusal BelowRequirement = refused house_layer 10
refusal NoPlace = refused house_layer 11
refusal LineTooLarge = refused house_layer 12
refusal PositionTooLarge = refused house_layer 13
refusal NoClose = refused house_layer 14
refusal NothingOpen = refused house_layer 15
refusal TooEarly = refused house_layer 16
refusal LastDay = refused house_layer 17
refusal UnfitBook = refused house_layer 18
refusal BadCounts = refused house_layer 19
refusal (Book f) = refused book_layer (fault_number f)

-- Its layer, as the code names it, and its number apart.
abbrev pub layer_in : Answer → CodeLayer
layer_in accepted = code_layer.House
layer_in (refused book_layer n) = code_layer.Book
layer_in (refused house_layer n) = code_layer.House

abbrev pub number_in : Answer → ℕ
number_in accepted = 0
number_in (refused l n) = n

abbrev pub refusal_layer : HouseFault → CodeLayer
refusal_layer x = layer_in (refusal x)

abbrev pub refusal_number : HouseFault → ℕ
refusal_number x = number_in (refusal x)

-- The answer that a call gave.
abbrev pub answer_of : {X : Type 0} → Result X HouseFault → Answer
answer_of (Ok x) = accepted
answer_of (Err f) = refusal f

-- The answer by the first of a call's refusals that applies.
abbrev pub answer_by : List (Refusal HouseFault) → Answer
answer_by rs = first refusal accepted rs

abbrev pub is_accepted : Answer → Bool
is_accepted accepted = true
is_accepted (refused l n) = false
