-- Netting: a trade goes into the register of lines.
use Rattle.std.specs.Prelude.{ℕ, zero, suc, ◌+◌, ◌*◌, min, max, Bool, cond, ◌&&◌, ◌||◌, ℤ, pos, ◌+ℤ◌, neg_ℤ, ◌==◌, int_lt, nat_lt, slice_set, unsigned_abs}
use Rattle.rank.specs.declared.key.Flag.{Flag}
use Rattle.rank.specs.declared.key.Flag.TheVariants.{LocalPrincipal, LocalClient, ForeignPrincipal, ForeignClient}
use Rattle.rank.specs.declared.key.Key.{Key}
use Rattle.rank.specs.Keys.{flag_number}
use Rattle.register.specs.declared.trade.Trade.{Trade}
use Rattle.register.specs.declared.trade.Side.{Side}
use Rattle.register.specs.declared.trade.Side.TheVariants.{Buyer, Seller}
use Rattle.register.specs.declared.line.Line.{Line}
use Rattle.register.specs.declared.Register.{Register}
use Rattle.register.specs.Limits.{most_quantity, most_money, days_to_due}
use Rattle.register.specs.Lines.{blank, line, key}

-- The day on which a trade of a day falls due.
abbrev pub due_day : ℕ → ℕ
due_day day = day + days_to_due

-- The flag that a number stands for; a number above 3 stands for none, and is refused before it is read.
abbrev pub flag_of : ℕ → Flag
flag_of n = cond (n == 0) LocalPrincipal (cond (n == 1) LocalClient (cond (n == 2) ForeignPrincipal ForeignClient))

abbrev pub same_key : Key → Key → Bool
same_key j k =
    (j.due == k.due) && (j.security == k.security &&
    (j.member == k.member && flag_number j.flag == flag_number k.flag))

-- The first place below n that has the key; n where none has.
abbrev pub place_below : Register → Key → ℕ → ℕ
place_below g k zero = 0
place_below g k (suc n) =
    cond (nat_lt (place_below g k n) n) (place_below g k n) (cond (same_key (key g n) k) n (suc n))

-- The place of the line that has the key; the count of lines where there is none.
abbrev pub place_of : Register → Key → ℕ
place_of g k = place_below g k g.count

abbrev pub known : Register → Key → Bool
known g k = nat_lt (place_of g k) g.count

abbrev pub line_of : Register → Key → Line
line_of g k = cond (known g k) (line g (place_of g k)) (blank k)

-- The order price: the highest purchase price of a line that receives, the lowest sale price of one that delivers, else 0.
abbrev pub order_price : ℤ → ℕ → ℕ → ℕ
order_price quantity highest lowest =
    cond (int_lt quantity (pos 0)) highest (cond (int_lt (pos 0) quantity) lowest 0)

-- The lower of two sale prices, of which the first may be none.
abbrev pub lower_sale : ℕ → ℕ → ℕ
lower_sale lowest p = cond (lowest == 0) p (min lowest p)

-- A line of today with other sums and prices. Nothing of it is delivered yet.
abbrev pub netted : Line → ℤ → ℤ → ℕ → ℕ → Line
netted l quantity money highest lowest = record {
  claim = record { key = l.claim.key; quantity = quantity; price = order_price quantity highest lowest };
  money = money;
  highest = highest;
  lowest = lowest;
  price = l.price;
  difference = l.difference;
  rest = unsigned_abs quantity;
  delivered = 0;
}

-- A sum that a purchase lowers and a sale raises.
abbrev pub moved : Side → ℤ → ℤ → ℤ
moved Buyer z n = z +ℤ neg_ℤ n
moved Seller z n = z +ℤ n

-- A line with q shares bought, or sold, at the price p.
abbrev pub bought : Line → ℕ → ℕ → Line
bought l q p =
    netted l (l.claim.quantity +ℤ neg_ℤ (pos q)) (l.money +ℤ neg_ℤ (pos (q * p))) (max l.highest p) l.lowest

abbrev pub sold : Line → ℕ → ℕ → Line
sold l q p =
    netted l (l.claim.quantity +ℤ pos q) (l.money +ℤ pos (q * p)) l.highest (lower_sale l.lowest p)

-- A line after one side of a trade.
abbrev pub traded : Side → Line → ℕ → ℕ → Line
traded Buyer = bought
traded Seller = sold

-- The register with a line in the place of its key, or in a new place behind the others.
abbrev pub filed : Register → Key → Line → Register
filed g k l = record {
  count = cond (known g k) g.count (suc g.count);
  lines = slice_set g.lines (place_of g k) l;
}

abbrev pub buyer_key : ℕ → Trade → Key
buyer_key due t = record { due = due; security = t.security; member = t.buyer; flag = flag_of t.buyer_flag }

abbrev pub seller_key : ℕ → Trade → Key
seller_key due t = record { due = due; security = t.security; member = t.seller; flag = flag_of t.seller_flag }

abbrev pub key_of : Side → ℕ → Trade → Key
key_of Buyer = buyer_key
key_of Seller = seller_key

-- Both sides of a trade that falls due on a day: the buyer's line, then the seller's, which may be the same.
abbrev pub buyer_filed : Register → ℕ → Trade → Register
buyer_filed g due t = filed g (buyer_key due t) (bought (line_of g (buyer_key due t)) t.quantity t.price)

abbrev pub trade_filed : Register → ℕ → Trade → Register
trade_filed g due t =
    filed (buyer_filed g due t) (seller_key due t) (sold (line_of (buyer_filed g due t) (seller_key due t)) t.quantity t.price)

-- A line that has passed the limits of shares or money, either way.
abbrev pub too_large : Line → Bool
too_large l = nat_lt most_quantity (unsigned_abs l.claim.quantity) || nat_lt most_money (unsigned_abs l.money)

-- Whether a line of the trade would pass a limit, after both sides.
abbrev pub trade_too_large : Register → ℕ → Trade → Bool
trade_too_large g due t =
    too_large (line_of (trade_filed g due t) (buyer_key due t)) || too_large (line_of (trade_filed g due t) (seller_key due t))
