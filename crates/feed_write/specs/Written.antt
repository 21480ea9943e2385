-- The bytes of an entry and of a feed. Assumes nothing.
use Rattle.std.specs.Prelude.{◌≡◌, ℕ, ◌+◌, ◌/◌, ◌%◌, ◌^◌, ◌<◌, ◌≤◌, Bool, true, cond, ◌&&◌, List, [], ◌∷◌, ◌++◌, length, take, drop, Ok, Err, codes, Result, All, flat_map, nat_le, nat_lt}
use Rattle.rank.specs.declared.key.Flag.{Flag}
use Rattle.rank.specs.Keys.{flag_letters}
use Rattle.feed.specs.Format.{Told, trade, close, most_reference, listed}
use Rattle.feed_write.specs.declared.fault.WriteFault.{WriteFault}
use Rattle.feed_write.specs.declared.fault.WriteFault.TheVariants as fault

-- a number of 32 bits, high byte first
abbrev pub word : ℕ → List ℕ
word n = n / 16777216 % 256 ∷ n / 65536 % 256 ∷ n / 256 % 256 ∷ n % 256 ∷ []

-- the two letters of a flag
abbrev pub letters : Flag → List ℕ
letters = flag_letters

-- an entry: its letter and its fields
abbrev pub bytes : Told → List ℕ
bytes (trade reference buyer buyer_flag seller seller_flag security quantity price) =
    codes "T" ++ (length reference ∷ (reference ++ (buyer ∷ (letters buyer_flag ++ (seller ∷ (letters seller_flag ++ (security ∷ (word quantity ++ word price))))))))
bytes (close security price) = codes "C" ++ (security ∷ word price)

-- the mark, the version, the entries and the letter that ends them
abbrev pub feed_bytes : List Told → List ℕ
feed_bytes es = codes "TRF" ++ (0 ∷ 1 ∷ (flat_map bytes es ++ codes "Z"))

-- the place of the first entry, after the mark and the version
abbrev pub first : ℕ
first = 5

-- each entry with its place, the first at p
abbrev pub placed : ℕ → List Told → List (ℕ × Told)
placed p [] = []
placed p (e ∷ es) = (p, e) ∷ placed (p + length (bytes e)) es

-- what the format can hold: a reference of 1 to 16 bytes, numbers of 8 and of 32 bits
abbrev pub WellFormed : Told → Type 0
WellFormed (trade reference buyer buyer_flag seller seller_flag security quantity price) =
    (1 ≤ length reference) × (length reference ≤ most_reference) × (buyer < 2 ^ 8) × (seller < 2 ^ 8) × (security < 2 ^ 8) × (quantity < 2 ^ 32) × (price < 2 ^ 32)
WellFormed (close security price) = (security < 2 ^ 8) × (price < 2 ^ 32)

-- a feed of well-formed entries is accepted, and says those entries, in order, each at its place
abbrev pub RoundTrip : Type 0
RoundTrip = (es : List Told) → All WellFormed es → listed (feed_bytes es) ≡ Ok (placed first es)

-- xs with ys written over it from p on
abbrev pub over : List ℕ → ℕ → List ℕ → List ℕ
over xs p ys = take p xs ++ (ys ++ drop (p + length ys) xs)

-- the entry's reference has 1 to 16 bytes
abbrev pub sound : Told → Bool
sound (trade reference buyer buyer_flag seller seller_flag security quantity price) = nat_le 1 (length reference) && nat_le (length reference) most_reference
sound (close security price) = true

-- how long an entry is, or why it is not written
abbrev pub size : Told → Result ℕ WriteFault
size e = cond (sound e) (Ok (length (bytes e))) (Err fault.Reference)

abbrev pub then : Result ℕ WriteFault → (ℕ → Result ℕ WriteFault) → Result ℕ WriteFault
then (Ok n) f = f n
then (Err e) f = Err e

-- where an entry ends that is written at p into a room of so many bytes, or why it is not written
abbrev pub entry_end : ℕ → ℕ → Told → Result ℕ WriteFault
entry_end room p e = then (size e) (λ n. cond (nat_lt room (p + n)) (Err fault.Room) (Ok (p + n)))

-- where the entries and the last letter end, written from p on, or the first fault, entry by entry
abbrev pub list_end : ℕ → ℕ → List Told → Result ℕ WriteFault
list_end room p [] = cond (nat_lt room (p + 1)) (Err fault.Room) (Ok (p + 1))
list_end room p (e ∷ es) = then (entry_end room p e) (λ q. list_end room q es)

-- where a feed ends, or why it is not written
abbrev pub feed_end : ℕ → List Told → Result ℕ WriteFault
feed_end room es = cond (nat_lt room first) (Err fault.Room) (list_end room first es)

-- a buffer that held xs holds ys since w was written at p, and w ends at q
pub record Wrote (xs : List ℕ) (p : ℕ) (w : List ℕ) (ys : List ℕ) (q : ℕ) : Type 0 where
  pub after : ys ≡ over xs p w
  pub ends : q ≡ p + length w

-- w was written at p if the answer is where it ends; a refusal leaves the buffer as it was
abbrev pub WroteIf : Result ℕ WriteFault → List ℕ → ℕ → List ℕ → List ℕ → Type 0
WroteIf (Ok q) xs p w ys = Wrote xs p w ys q
WroteIf (Err e) xs p w ys = ys ≡ xs
