-- What follows of lines from the laws of a rank alone.
use Rattle.std.proofs.Common.{◌≡◌, Bool, not, sym, refl, ◌∙◌}
use Rattle.std.proofs.ByRecursion.{All-weaker}
use Rattle.rank.specs.declared.claim.Claim.{Claim}
use Rattle.rank.specs.Laws.{Peers, Rivals, Lawful}
use Rattle.rank.specs.Order.{InsertionKeepsOrder, OrderIsUnique}
use Rattle.rank.proofs.Sorting.{Strict, insert_in_order, insert_shuffled, order_unique}

pub peers_self : (a : Claim) → Peers a a
peers_self a = record { one_side = refl; one_day = refl; one_security = refl }

pub peers_back : (a b : Claim) → Peers a b → Peers b a
peers_back a b h = record { one_side = sym h.one_side; one_day = sym h.one_day; one_security = sym h.one_security }

pub peers_on : (a b c : Claim) → Peers a b → Peers b c → Peers a c
peers_on a b c h k = record { one_side = h.one_side ∙ k.one_side; one_day = h.one_day ∙ k.one_day; one_security = h.one_security ∙ k.one_security }

-- A rank orders the peers of a line.
pub lawful_strict : (goes : Claim → Claim → Bool) → Lawful goes → (a : Claim) → Strict (Peers a) goes
lawful_strict goes law a = record {
  never = λ x _. law.never x;
  chain = λ x y z p q r. law.chain x y z (peers_on x a y (peers_back a x p) q) (peers_on y a z (peers_back a y q) r);
}

pub insertion_keeps_order : InsertionKeepsOrder
insertion_keeps_order goes law x xs h o = (
  insert_in_order (Peers x) goes (lawful_strict goes law x) x xs (peers_self x)
      (All-weaker (Rivals x) (Peers x) (λ y r. r.peers) xs h)
      (All-weaker (Rivals x) (λ y. goes y x ≡ not (goes x y)) (λ y r. law.one x y r) xs h) o,
  insert_shuffled goes x xs,
)

pub order_is_unique : OrderIsUnique
order_is_unique goes law a = order_unique (Peers a) goes (lawful_strict goes law a)
