-- Reading bytes by place: a reading takes the bytes and a place in them, and gives a value and the place after it, or the one fault. Assumes nothing.
use Rattle.std.specs.Prelude.{ℕ, zero, suc, ◌+◌, ◌*◌, Bool, cond, List, [], ◌∷◌, length, take, drop, Ok, Err, Result, nat_lt, slice_index}
use Rattle.feed.specs.declared.fault.FeedFault.{FeedFault}
use Rattle.feed.specs.declared.fault.FeedFault.TheVariants.{CutShort}

infixl 10 ◌>>=◌ ◌>>◌
infixl 20 ◌when◌
-- what is read and the place after it, or the fault
abbrev pub Read : Type 0 → Type 0
Read X = Result (X × ℕ) FeedFault

abbrev pub Reading : Type 0 → Type 0
Reading X = List ℕ → ℕ → Read X

-- reads nothing
abbrev pub give : {X : Type 0} → X → Reading X
give x bs p = Ok (x, p)

abbrev pub then : {X Y : Type 0} → Read X → (X → ℕ → Read Y) → Read Y
then (Ok r) f = f r.0 r.1
then (Err e) f = Err e

-- one reading, and the next from where it ended
abbrev pub ◌>>=◌ : {X Y : Type 0} → Reading X → (X → Reading Y) → Reading Y
◌>>=◌ r f bs p = then (r bs p) (λ x q. f x bs q)

abbrev pub ◌>>◌ : {X Y : Type 0} → Reading X → Reading Y → Reading Y
◌>>◌ r s bs p = then (r bs p) (λ x q. s bs q)

-- goes on only where the test holds
abbrev pub expect : Bool → FeedFault → Reading (Unit {0})
expect test e bs p = cond test (Ok (tt, p)) (Err e)

pub record Case (X : Type 0) : Type 0 where
  pub reading : Reading X
  pub test : Bool

abbrev pub ◌when◌ : {X : Type 0} → Reading X → Bool → Case X
r when b = record { reading = r; test = b }

-- the first case whose test holds
abbrev pub one_of : {X : Type 0} → FeedFault → List (Case X) → Reading X
one_of e [] bs p = Err e
one_of e (c ∷ cs) bs p = cond c.test (c.reading bs p) (one_of e cs bs p)

-- a field of n bytes: where fewer are left it is cut short, whatever they are
abbrev pub field : ℕ → Reading (List ℕ)
field n bs p = cond (nat_lt (length bs) (p + n)) (Err CutShort) (Ok (take n (drop p bs), p + n))

-- the number that the first n bytes spell, high byte first
abbrev pub high_first : ℕ → List ℕ → ℕ
high_first zero bs = 0
high_first (suc n) bs = high_first n bs * 256 + slice_index bs n

-- a number of n bytes
abbrev pub number : ℕ → Reading ℕ
number n = do
  bytes ← field n
  give (high_first n bytes)
