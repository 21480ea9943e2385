-- What a trade would make of the lines of its two sides, worked out from the lines before it.
use Rattle.std.specs.Prelude.{ℕ, ◌+◌, Bool, cond, ◌||◌}
use Rattle.rank.specs.declared.key.Key.{Key}
use Rattle.register.specs.declared.line.Line.{Line}
use Rattle.register.specs.declared.trade.Trade.{Trade}
use Rattle.register.specs.declared.Register.{Register}
use Rattle.register.specs.declared.netting.Sides.{Sides}
use Rattle.register.specs.Netting.{same_key, known, bought, sold}

-- A line that is on both sides of a trade.
abbrev pub crossed : Line → ℕ → ℕ → Line
crossed l q p = sold (bought l q p) q p

-- Both sides after a trade; they may be one line.
abbrev pub sides_netted : Bool → Line → Line → Trade → Sides
sides_netted one b s t =
    cond one
    (record { buyer = crossed b t.quantity t.price; seller = crossed b t.quantity t.price })
    (record { buyer = bought b t.quantity t.price; seller = sold s t.quantity t.price })

abbrev pub one_unless : Bool → ℕ
one_unless b = cond b 0 1

-- How many lines a trade between two keys opens; the keys may be one.
abbrev pub new_lines : Register → Key → Key → ℕ
new_lines g b s = one_unless (known g b) + one_unless (same_key b s || known g s)
