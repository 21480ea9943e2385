-- The format of a feed: what its bytes say, or the one fault for which they are refused. Assumes nothing.
use Rattle.std.specs.Prelude.{ℕ, zero, suc, Bool, cond, ◌&&◌, List, [], ◌∷◌, length, is_ok, Some, None, Ok, Err, codes, Option, Result, ◌==◌, nat_le, nat_lt, slice_index}
use Prim.Native.String.{String}
use Rattle.feed.specs.declared.fault.FeedFault.{FeedFault}
use Rattle.feed.specs.declared.fault.FeedFault.TheVariants as fault
use Rattle.rank.specs.declared.key.Flag.{Flag}
use Rattle.rank.specs.declared.key.Flag.TheVariants.{LocalPrincipal, LocalClient, ForeignPrincipal, ForeignClient}
use Rattle.feed.specs.Readings.{Read, Reading, Case, give, ◌>>=◌, ◌>>◌, expect, ◌when◌, one_of, field, number}

-- what an entry says; its reference is the bytes themselves
pub data Told : Type 0 where
  trade : (reference : List ℕ) (buyer : ℕ) (buyer_flag : Flag) (seller : ℕ) (seller_flag : Flag) (security quantity price : ℕ) → Told
  close : (security price : ℕ) → Told

-- the byte b is the letter c
abbrev pub is : ℕ → String → Bool
is b c = b == slice_index (codes c) 0

-- the letters TRF, then the version, 1
abbrev pub head : Reading (Unit {0})
head = do
  mark ← field 3
  expect (is (slice_index mark 0) "T" && (is (slice_index mark 1) "R" && is (slice_index mark 2) "F")) fault.Mark
  version ← number 2
  expect (version == 1) fault.Version

-- the longest reference
abbrev pub most_reference : ℕ
most_reference = 16

-- a length of 1 to 16, then that many bytes
abbrev pub reference : Reading (List ℕ)
reference = do
  length ← number 1
  expect (nat_le 1 length && nat_le length most_reference) fault.Length
  field length

-- L for local or F for foreign, then P for principal or C for client
abbrev pub flags : ℕ → ℕ → List (Case Flag)
flags home own =
    (give LocalPrincipal when (is home "L" && is own "P")) ∷
    (give LocalClient when (is home "L" && is own "C")) ∷
    (give ForeignPrincipal when (is home "F" && is own "P")) ∷
    (give ForeignClient when (is home "F" && is own "C")) ∷ []

abbrev pub flag : Reading Flag
flag = do
  letters ← field 2
  one_of fault.FlagLetters (flags (slice_index letters 0) (slice_index letters 1))

abbrev pub trade_fields : Reading (Option Told)
trade_fields = do
  ref ← reference
  buyer ← number 1
  buyer_flag ← flag
  seller ← number 1
  seller_flag ← flag
  security ← number 1
  quantity ← number 4
  price ← number 4
  give (Some (trade ref buyer buyer_flag seller seller_flag security quantity price))

abbrev pub close_fields : Reading (Option Told)
close_fields = do
  security ← number 1
  price ← number 4
  give (Some (close security price))

-- T leads a trade, C a closing price; Z is no entry, and ends the feed
abbrev pub kinds : ℕ → List (Case (Option Told))
kinds letter =
    (trade_fields when is letter "T") ∷
    (close_fields when is letter "C") ∷
    (give None when is letter "Z") ∷ []

-- an entry, led by its letter
abbrev pub entry : Reading (Option Told)
entry = do
  letter ← number 1
  one_of fault.Kind (kinds letter)

-- nothing follows
abbrev pub end : List ℕ → ℕ → Result (Unit {0}) FeedFault
end bs p = cond (nat_lt p (length bs)) (Err fault.AfterEnd) (Ok tt)

-- entries with their places
abbrev pub Listed : Type 0
Listed = Result (List (ℕ × Told)) FeedFault

abbrev pub ahead : ℕ × Told → Listed → Listed
ahead e (Ok es) = Ok (e ∷ es)
ahead e (Err f) = Err f

abbrev pub closed : Result (Unit {0}) FeedFault → Listed
closed (Ok u) = Ok []
closed (Err f) = Err f

-- what was read at p, up to q, and then what `more` lists
abbrev pub onward : (ℕ → Listed) → List ℕ → ℕ → Option Told → ℕ → Listed
onward more bs p (Some e) q = ahead (p, e) (more q)
onward more bs p None q = closed (end bs q)

abbrev pub follow : (ℕ → Listed) → List ℕ → ℕ → Read (Option Told) → Listed
follow more bs p (Ok r) = onward more bs p r.0 r.1
follow more bs p (Err f) = Err f

-- the entries from p on; each has a byte at least, so n of them are enough where at most n bytes are left
abbrev pub list_at : ℕ → List ℕ → ℕ → Listed
list_at zero bs p = Err fault.CutShort
list_at (suc n) bs p = follow (list_at n bs) bs p (entry bs p)

abbrev pub list_from : List ℕ → ℕ → Listed
list_from bs p = list_at (length bs) bs p

abbrev pub after_head : List ℕ → Read (Unit {0}) → Listed
after_head bs (Ok r) = list_from bs r.1
after_head bs (Err f) = Err f

-- what the bytes say: the entries with their places, or the one fault
abbrev pub listed : List ℕ → Listed
listed bs = after_head bs (head bs 0)

abbrev pub judged : Listed → Result (Unit {0}) FeedFault
judged (Ok es) = Ok tt
judged (Err f) = Err f

abbrev pub verdict : List ℕ → Result (Unit {0}) FeedFault
verdict bs = judged (listed bs)

abbrev pub accepted : List ℕ → Bool
accepted bs = is_ok (verdict bs)

abbrev pub entries_of : Listed → List (ℕ × Told)
entries_of (Ok es) = es
entries_of (Err f) = []

-- the entries from a place on; none where they are refused
abbrev pub entries_from : List ℕ → ℕ → List (ℕ × Told)
entries_from bs p = entries_of (list_from bs p)

-- the entries of a feed with their places; none where it is refused
abbrev pub entries : List ℕ → List (ℕ × Told)
entries bs = entries_of (listed bs)
