-- Lawful relations, made one over the other: what decides last, and what goes before it.
use Rattle.std.specs.Prelude.{◌≡◌, ℕ, ◌*◌, Bool, true, false, cond, not, ◌≢◌, nat_lt}
use Rattle.std.proofs.Common.{sym, subst, arith}
use Rattle.rank.specs.declared.claim.Claim.{Claim}
use Rattle.rank.specs.Keys.{key_number}
use Rattle.rank.specs.Claims.{is_delivering, is_receiving, size_of}
use Rattle.rank.specs.Laws.{Peers, Rivals, Lawful}
use Rattle.rank.specs.Ranks.{smaller_first, larger_first, by_key, draw_of, by_draw, annex_goes, former_goes}
use Rattle.rank.specs.Numbers.{low_bits_differ, draws_differ}
use Rattle.rank.specs.Ties.{below_never, below_one, below_chain, first_never, first_one, first_chain}

-- A number of each line's own decides, the smaller first, if rivals never share it.
pub number_lawful : (f : Claim → ℕ) → ((a b : Claim) → Rivals a b → f a ≢ f b) → Lawful (λ a b. nat_lt (f a) (f b))
number_lawful f differ = record {
  never = λ a. below_never (f a);
  one = λ a b h. below_one (f a) (f b) (differ a b h);
  chain = λ a b c _ _ x y. below_chain (f a) (f b) (f c) x y;
}

pub key_lawful : Lawful by_key
key_lawful = number_lawful (λ a. key_number a.key) differ
  where
    differ : (a b : Claim) → Rivals a b → key_number a.key ≢ key_number b.key
    differ a b h e =
        h.differ (low_bits_differ a.key b.key h.peers.one_day h.peers.one_security h.left_fits h.right_fits (omega arith))

pub draw_lawful : (s : ℕ) → Lawful (by_draw s)
draw_lawful s =
    number_lawful (λ a. draw_of s a.key)
    (λ a b h e. h.differ (draws_differ s a.key b.key h.peers.one_day h.peers.one_security h.left_fits h.right_fits e))

-- A number of each line goes first, and where it is equal a lawful relation decides.
module _ (f : Claim → ℕ) (next : Claim → Claim → Bool) (law : Lawful next) where
  pub smaller_lawful : Lawful (λ a b. smaller_first (f a) (f b) (next a b))
  smaller_lawful = record {
    never = λ a. first_never (f a) (next a a) (law.never a);
    one = λ a b h. first_one (f a) (f b) (next a b) (next b a) (λ _. law.one a b h);
    chain = λ a b c p q. first_chain (f a) (f b) (f c) (next a b) (next b c) (next a c) (λ _ _. law.chain a b c p q);
  }

  pub larger_lawful : Lawful (λ a b. larger_first (f a) (f b) (next a b))
  larger_lawful = record {
    never = λ a. first_never (f a) (next a a) (law.never a);
    one = λ a b h. first_one (f b) (f a) (next a b) (next b a) (λ _. law.one a b h);
    chain = λ a b c p q x y. first_chain (f c) (f b) (f a) (next b c) (next a b) (next a c) (λ _ _ v u. law.chain a b c p q u v) y x;
  }

-- Peers receive together.
pub peers_receive : (a b : Claim) → Peers a b → is_receiving a ≡ is_receiving b
peers_receive a b h = same (is_receiving a) (is_receiving b) (is_delivering a) (is_delivering b) h.one_side
  where
    same : (r s d e : Bool) → ◌≡◌ {A = ℕ} (cond r 1 (cond d 0 2)) (cond s 1 (cond e 0 2)) → r ≡ s
    same r s d e h = grind arith

-- One lawful relation for the lines that receive, another for the others.
pub sides_lawful : (receivers others : Claim → Claim → Bool) → Lawful receivers → Lawful others → Lawful (λ a b. cond (is_receiving a) (receivers a b) (others a b))
sides_lawful receivers others l k = record {
  never = λ a. elim (is_receiving a) as (λ r. cond r (receivers a a) (others a a) ≡ false) [ true ↦ l.never a | false ↦ k.never a ];
  one = λ a b h.
      subst (λ (r : Bool). cond r (receivers b a) (others b a) ≡ not (cond (is_receiving a) (receivers a b) (others a b))) (peers_receive a b h.peers)
      (elim (is_receiving a) as (λ r. cond r (receivers b a) (others b a) ≡ not (cond r (receivers a b) (others a b))) [ true ↦ l.one a b h | false ↦ k.one a b h ]);
  chain = λ a b c p q x y. go a b c p q (is_receiving a) x (subst (λ (r : Bool). cond r (receivers b c) (others b c) ≡ true) (sym (peers_receive a b p)) y);
}
  where
    go : (a b c : Claim) → Peers a b → Peers b c → (r : Bool) → cond r (receivers a b) (others a b) ≡ true → cond r (receivers b c) (others b c) ≡ true → cond r (receivers a c) (others a c) ≡ true
    go a b c p q true = l.chain a b c p q
    go a b c p q false = k.chain a b c p q

pub annex_lawful : (s : ℕ) → Lawful (annex_goes s)
annex_lawful s =
    sides_lawful (λ a b. larger_first a.price b.price (sizes a b)) (λ a b. smaller_first a.price b.price (sizes a b))
    (larger_lawful (λ a. a.price) sizes law) (smaller_lawful (λ a. a.price) sizes law)
  where
    sizes : Claim → Claim → Bool
    sizes a b = smaller_first (size_of a) (size_of b) (by_draw s a b)

    law : Lawful sizes
    law = smaller_lawful size_of (by_draw s) (draw_lawful s)

pub former_lawful : (p : ℕ) → Lawful (former_goes p)
former_lawful p = larger_lawful (λ a. size_of a * p) by_key key_lawful
