-- A line's key and the number that stands for it.
use Rattle.std.specs.Prelude.{◌≡◌, ℕ, ◌+◌, ◌*◌, ◌%◌, ◌<◌, List, Ok, Err, Result, codes, ◌≢◌}
use Rattle.rank.specs.declared.key.Flag.{Flag}
use Rattle.rank.specs.declared.key.Flag.TheVariants.{LocalPrincipal, LocalClient, ForeignPrincipal, ForeignClient}
use Rattle.rank.specs.declared.key.NoFlag.{NoFlag}
use Rattle.rank.specs.declared.key.Key.{Key}

abbrev pub flag_number : Flag → ℕ
flag_number LocalPrincipal = 0
flag_number LocalClient = 1
flag_number ForeignPrincipal = 2
flag_number ForeignClient = 3

-- Local or foreign, then principal or client.
abbrev pub flag_letters : Flag → List ℕ
flag_letters LocalPrincipal = codes "LP"
flag_letters LocalClient = codes "LC"
flag_letters ForeignPrincipal = codes "FP"
flag_letters ForeignClient = codes "FC"

-- The flag that has a number, or none where no flag has it.
abbrev pub FlagNumbered : ℕ → Result Flag NoFlag → Type 0
FlagNumbered n (Ok f) = flag_number f ≡ n
FlagNumbered n (Err _) = (f : Flag) → flag_number f ≢ n

-- The flag that has the letters, or none where no flag has them.
abbrev pub FlagLettered : List ℕ → Result Flag NoFlag → Type 0
FlagLettered bs (Ok f) = flag_letters f ≡ bs
FlagLettered bs (Err _) = (f : Flag) → flag_letters f ≢ bs

abbrev pub key_number : Key → ℕ
key_number k = ((k.due * 64 + k.security) * 64 + k.member) * 4 + flag_number k.flag

-- The members, and the securities, that the number has room for.
abbrev pub MemberFits : Key → Type 0
MemberFits k = k.member < 64

abbrev pub SecurityFits : Key → Type 0
SecurityFits k = k.security < 64

-- Keys with one number are one key: a different due day, security, member or flag gives a different number.
abbrev pub NumbersDiffer : Type 0
NumbersDiffer =
    (j k : Key) → SecurityFits j → SecurityFits k → MemberFits j → MemberFits k → key_number j ≡ key_number k → j ≡ k

-- Keys of one due day and security differ within the low eight bits.
abbrev pub LowBitsDiffer : Type 0
LowBitsDiffer =
    (j k : Key) → j.due ≡ k.due → j.security ≡ k.security → MemberFits j → MemberFits k →
    key_number j % 256 ≡ key_number k % 256 → j ≡ k

-- Due day 4, security 1, member 2, LC.
abbrev pub NumberExample : Type 0
NumberExample = key_number (record { due = 4; security = 1; member = 2; flag = LocalClient }) ≡ 65801
