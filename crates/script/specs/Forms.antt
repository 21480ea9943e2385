-- The commands' names, and the words that follow each.
use Rattle.std.specs.Prelude.{ℕ, ◌-◌, ◌^◌, cond, List, [], ◌∷◌, drop, Ok, Err, codes, Result}
use Rattle.std.specs.Str.{bytes_eq}
use Rattle.script.specs.declared.command.Command.{Command}
use Rattle.script.specs.declared.command.Command.TheVariants.{Table, OnBook}
use Rattle.script.specs.declared.command.BookCommand.TheVariants.{Put, Pull, Move, Balance, Balances}
use Rattle.script.specs.declared.misread.Misread.{Misread}
use Rattle.script.specs.declared.misread.Misread.TheVariants.{Unknown, Count}
use Rattle.script.specs.Numeral.{numeral}

infixl 10 ◌>>=◌
-- The first of two readings that fails is the one that counts.
abbrev pub ◌>>=◌ : {X Y : Type 0} → Result X Misread → (X → Result Y Misread) → Result Y Misread
Ok x >>= f = f x
Err e >>= f = Err e

-- What the first word says, which there must be.
abbrev pub first_says : {X : Type 0} → (List ℕ → Result X Misread) → List (List ℕ) → Result X Misread
first_says f [] = Err Count
first_says f (w ∷ ws) = f w

-- The word at a place says a number of 8 bits, or one of 64 bits.
abbrev pub byte : ℕ → List (List ℕ) → Result ℕ Misread
byte place ws = first_says (numeral (2 ^ 8 - 1)) (drop place ws)

abbrev pub amount : ℕ → List (List ℕ) → Result ℕ Misread
amount place ws = first_says (numeral (2 ^ 64 - 1)) (drop place ws)

-- The word at a place is this one.
abbrev pub same : List ℕ → List ℕ → Result (Unit {0}) Misread
same name w = cond (bytes_eq w name) (Ok tt) (Err Unknown)

abbrev pub keyword : List ℕ → ℕ → List (List ℕ) → Result (Unit {0}) Misread
keyword name place ws = first_says (same name) (drop place ws)

-- What the words after each name say, word by word from the first on, and the words that are left over.
abbrev pub Reading : Type 0
Reading = Result (Command × List (List ℕ)) Misread

abbrev pub table : List (List ℕ) → Reading
table ws = do
  _ ← keyword (codes "table") 0 ws
  n ← byte 1 ws
  m ← byte 2 ws
  Ok (Table n m, drop 3 ws)

abbrev pub put : List (List ℕ) → Reading
put ws = do
  a ← byte 0 ws
  s ← byte 1 ws
  n ← amount 2 ws
  Ok (OnBook (Put a s n), drop 3 ws)

abbrev pub pull : List (List ℕ) → Reading
pull ws = do
  a ← byte 0 ws
  s ← byte 1 ws
  n ← amount 2 ws
  Ok (OnBook (Pull a s n), drop 3 ws)

abbrev pub move : List (List ℕ) → Reading
move ws = do
  a ← byte 0 ws
  c ← byte 1 ws
  s ← byte 2 ws
  n ← amount 3 ws
  Ok (OnBook (Move a c s n), drop 4 ws)

abbrev pub balance : List (List ℕ) → Reading
balance ws = do
  a ← byte 0 ws
  s ← byte 1 ws
  Ok (OnBook (Balance a s), drop 2 ws)

abbrev pub balances : List (List ℕ) → Reading
balances ws = Ok (OnBook Balances, ws)

-- What has the name w; `none` where nothing has it.
abbrev pub named : {X : Type 0} → X → List (List ℕ × X) → List ℕ → X
named none [] w = none
named none (v ∷ vs) w = cond (bytes_eq w v.0) v.1 (named none vs w)

-- What a command's name says with the words after it.
abbrev pub told : List ℕ → List (List ℕ) → Reading
told w ws =
    named (Err Unknown) (
    (codes "book", table ws) ∷
    (codes "put", put ws) ∷
    (codes "pull", pull ws) ∷
    (codes "move", move ws) ∷
    (codes "balance", balance ws) ∷
    (codes "balances", balances ws) ∷ []) w

-- No word is left over.
abbrev pub end : List (List ℕ) → Result (Unit {0}) Misread
end [] = Ok tt
end (w ∷ ws) = Err Count
