-- Keys and their numbers.
use Rattle.std.specs.Prelude.{◌≡◌, ℕ, ◌+◌, ◌-◌, ◌*◌, ◌/◌, ◌%◌, ◌<◌, ◌≤◌, cond, ◌==◌, refl}
use Rattle.std.proofs.Common.{sym, ap, ◌∙◌, ⊎_elim, arith}
use Rattle.std.proofs.lemmas.Bool.{cases_lt}
use Rattle.rank.specs.declared.key.Flag.{Flag}
use Rattle.rank.specs.declared.key.Flag.TheVariants.{LocalPrincipal, LocalClient, ForeignPrincipal, ForeignClient}
use Rattle.rank.specs.declared.key.Key.{Key}
use Rattle.rank.specs.Keys.{flag_number, key_number, MemberFits, NumbersDiffer, LowBitsDiffer}
use Rattle.rank.specs.Ranks.{multiplier, draws, draw_of}

pub flag_below : (f : Flag) → flag_number f < 4
flag_below LocalPrincipal = omega arith
flag_below LocalClient = omega arith
flag_below ForeignPrincipal = omega arith
flag_below ForeignClient = omega arith

abbrev flag_at : ℕ → Flag
flag_at n = cond (n == 0) LocalPrincipal (cond (n == 1) LocalClient (cond (n == 2) ForeignPrincipal ForeignClient))

flag_back : (f : Flag) → f ≡ flag_at (flag_number f)
flag_back LocalPrincipal = refl
flag_back LocalClient = refl
flag_back ForeignPrincipal = refl
flag_back ForeignClient = refl

pub flag_same : (f g : Flag) → flag_number f ≡ flag_number g → f ≡ g
flag_same f g e = flag_back f ∙ (ap flag_at e ∙ sym (flag_back g))

pub key_same : (j k : Key) → j.due ≡ k.due → j.security ≡ k.security → j.member ≡ k.member → flag_number j.flag ≡ flag_number k.flag → j ≡ k
key_same j k d s m f = let e = flag_same j.flag k.flag f in λ i. record { due = d i; security = s i; member = m i; flag = e i }

pub numbers_differ : NumbersDiffer
numbers_differ j k t u h l e =
    let x = flag_below j.flag in
    let y = flag_below k.flag in
    key_same j k (omega arith) (omega arith) (omega arith) (omega arith)

pub low_bits_differ : LowBitsDiffer
low_bits_differ j k d s h l e =
    let x = flag_below j.flag in
    let y = flag_below k.flag in
    key_same j k d s (omega arith) (omega arith)

-- The inverse of the multiplier: their product is one more than a multiple of the number of draws.
abbrev inverse : ℕ
inverse = 244002641

abbrev multiple : ℕ
multiple = 150801925

whole : (d u v : ℕ) → d + draws * u ≡ draws * v → d < draws → d ≡ 0
whole d u v e h = omega arith

undone : (d q : ℕ) → d * multiplier ≡ q * draws → d < draws → d ≡ 0
undone d q e h = whole d (d * multiple) (q * inverse) (omega arith) h

-- So numbers less than 2^32 apart have different products.
apart : (x y : ℕ) → x ≤ y → y < x + draws → (x * multiplier) % draws ≡ (y * multiplier) % draws → x ≡ y
apart x y l h e =
    let z = undone (y - x) ((y * multiplier) / draws - (x * multiplier) / draws) (omega arith) (omega arith) in omega arith

-- Keys of one due day and security with one draw are one key.
pub draws_differ : (s : ℕ) (j k : Key) → j.due ≡ k.due → j.security ≡ k.security → MemberFits j → MemberFits k → draw_of s j ≡ draw_of s k → j ≡ k
draws_differ s j k d t h l e = low_bits_differ j k d t h l (ap (λ n. n % 256) one)
  where
    one : key_number j ≡ key_number k
    one =
        let x = flag_below j.flag in
        let y = flag_below k.flag in
        ⊎_elim
        (λ lt. let z = apart (key_number j + s) (key_number k + s) (omega arith) (omega arith) e in omega arith)
        (λ le. let z = apart (key_number k + s) (key_number j + s) (omega arith) (omega arith) (sym e) in omega arith)
        (cases_lt (key_number j) (key_number k))
