-- What every rank keeps.
use Rattle.std.specs.Prelude.{◌≡◌, Bool, true, false, not}
use Rattle.rank.specs.declared.claim.Claim.{Claim}
use Rattle.rank.specs.Keys.{MemberFits}
use Rattle.rank.specs.Claims.{side}

-- Lines of one side, due day and security: a rank is asked only between these.
pub record Peers (a b : Claim) : Type 0 where
  pub one_side : side a ≡ side b
  pub one_day : a.key.due ≡ b.key.due
  pub one_security : a.key.security ≡ b.key.security

-- Peers with different keys, of members that a key's number has room for: between these a rank must choose.
pub record Rivals (a b : Claim) : Type 0 where
  pub peers : Peers a b
  pub differ : a.key ≡ b.key → ⊥
  pub left_fits : MemberFits a.key
  pub right_fits : MemberFits b.key

-- A relation 'goes before' that a rank may have.
pub record Lawful (goes : Claim → Claim → Bool) : Type 0 where
  -- No line goes before itself.
  pub never : (a : Claim) → goes a a ≡ false
  -- Of two different keys exactly one goes before.
  pub one : (a b : Claim) → Rivals a b → goes b a ≡ not (goes a b)
  -- If a goes before b and b before c, a goes before c.
  pub chain : (a b c : Claim) → Peers a b → Peers b c → goes a b ≡ true → goes b c ≡ true → goes a c ≡ true
