-- A line of the register as text.
use Rattle.std.specs.Prelude.{ℕ, List, ◌++◌, codes, decimal}
use Rattle.std.specs.Fmt.{signed_decimal}
use Rattle.rank.specs.declared.key.Key.{Key}
use Rattle.rank.specs.Keys.{key_number, flag_letters}
use Rattle.register.specs.declared.line.Line.{Line}

-- line KEY due D security S member M flag FF
abbrev pub key_text : Key → List ℕ
key_text k =
    codes "line " ++ (decimal (key_number k) ++ (codes " due " ++ (decimal k.due ++ (codes " security " ++ (decimal k.security ++
    (codes " member " ++ (decimal k.member ++ (codes " flag " ++ flag_letters k.flag))))))))

-- quantity Q money N order O
abbrev pub net_text : Line → List ℕ
net_text l =
    codes "quantity " ++ (signed_decimal l.claim.quantity ++ (codes " money " ++ (signed_decimal l.money ++ (codes " order " ++ decimal l.claim.price))))

-- price P difference D rest R
abbrev pub settling_text : Line → List ℕ
settling_text l =
    codes "price " ++ (decimal l.price ++ (codes " difference " ++ (signed_decimal l.difference ++ (codes " rest " ++ decimal l.rest))))

abbrev pub line_text : Line → List ℕ
line_text l = key_text l.claim.key ++ (codes " " ++ (net_text l ++ (codes " " ++ settling_text l)))
