-- What the type of a register says of it, and what the netting of a trade leans on: sums that stay within their types, and a place
-- for each line.
use Rattle.std.specs.Prelude.{◌≡◌, ℕ, ◌*◌, ◌<◌, ◌≤◌, length, take, unsigned_abs}
use Rattle.rank.specs.declared.key.Key.{Key}
use Rattle.register.specs.declared.line.Line.{Line}
use Rattle.register.specs.declared.trade.Trade.{Trade}
use Rattle.register.specs.declared.Register.{Register}
use Rattle.register.specs.Limits.{most_quantity, most_money, register_places}
use Rattle.register.specs.Lines.{no_line, line}
use Rattle.register.specs.Dropping.{register_of}
use Rattle.register.specs.Netting.{place_of, line_of, trade_filed}

-- All places are there, and no more lines than places: every place of a line can be read and written.
pub record Tabled (g : Register) : Type 0 where
  pub places : length g.lines ≡ register_places
  pub few : g.count ≤ register_places

-- What the type of a register says of it: all that, and that the places behind its lines are empty; in other words that it is the
-- register of its lines, which stands here too, so that a search finds either.
pub record Shaped (g : Register) : Type 0 where
  pub table : Tabled g
  pub behind : (i : ℕ) → g.count ≤ i → line g i ≡ no_line
  pub listed : g ≡ register_of (take g.count g.lines)

-- The netted quantity and money of a line are at most so many times their limits: one more side of a trade stays within 64 bits.
pub record Sized (n : ℕ) (l : Line) : Type 0 where
  pub quantity : unsigned_abs l.claim.quantity ≤ n * most_quantity
  pub money : unsigned_abs l.money ≤ n * most_money

-- The lines of a register are within their limits.
abbrev pub AllSized : Register → Type 0
AllSized g = (i : ℕ) → i < g.count → Sized 1 (line g i)

-- One side of a trade can be netted into the line of a key: it has a place, and its sums stay within their type.
pub record Nettable (g : Register) (k : Key) : Type 0 where
  pub place : place_of g k < register_places
  pub sized : Sized 2 (line_of g k)

-- Both sides of a trade have a place.
abbrev pub Room : Register → ℕ → Trade → Type 0
Room g due t = (trade_filed g due t).count ≤ register_places
