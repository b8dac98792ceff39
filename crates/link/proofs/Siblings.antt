-- The children of a node, one behind the other.
use Rattle.std.proofs.Common.{◌≡◌, ℕ, ◌<◌, true, List, length, sym, subst, ⊎_elim, arith}
use Rattle.std.proofs.lemmas.Bool.{cases_eq}
use Rattle.nodes.specs.Nodes.{string, is_child}
use Rattle.nodes.proofs.Children.{first_child-some, next_sibling-some}
use Rattle.link.specs.Entering.{Behind}
use Rattle.link.specs.Table.{Tree, node_at}
use Rattle.link.specs.declared.node.Node.{Node}

-- c is a child of node n, with a greater number than m
pub record ChildPast (ss : List (List ℕ)) (n m c : ℕ) : Type 0 where
  pub later : m < c
  pub within : c < length ss
  pub child : is_child (string ss n) (string ss c) ≡ true

-- what comes behind a child is one, unless it is 0
pub behind_is : (ss : List (List ℕ)) (n m c : ℕ) → Behind ss n m c → 0 < c → ChildPast ss n m c
behind_is ss n m c b some = ⊎_elim at_first further (cases_eq m 0)
  where
    at_first : m ≡ 0 → ChildPast ss n m c
    at_first z =
        let is = b.first z in
        let next = first_child-some ss (string ss n) (subst (λ x. 0 < x) is some) in
        subst (ChildPast ss n m) (sym is) (record { later = omega arith; within = next.within; child = next.passes })

    further : (m ≡ 0 → ⊥) → ChildPast ss n m c
    further more =
        let above : 0 < m = omega arith in
        let is = b.next above in
        let next = next_sibling-some ss m (string ss n) (string ss m) (b.child above) (subst (λ x. 0 < x) is some) in
        subst (ChildPast ss n m) (sym is) (record { later = next.from; within = next.within; child = next.passes })

-- so it is the number of some node
pub behind_within : (ss : List (List ℕ)) (n m c : ℕ) → Behind ss n m c → c < length ss
behind_within ss n m c b = let m-within = b.within in ⊎_elim (λ z. omega arith) (λ more. (behind_is ss n m c b (omega arith)).within) (cases_eq c 0)

-- the children of node n, as the table has them
module _ (t : List Node) (ss : List (List ℕ)) (tree : Tree t ss) (n : ℕ) where
  pub behind_none : n < length t → Behind ss n 0 (node_at t n).first
  behind_none h = record {
    within = tree.table.rooted.some;
    child = λ z. absurd (omega arith);
    first = λ z. tree.first n (subst (λ m. n < m) tree.size h);
    next = λ z. absurd (omega arith);
  }

  pub behind_more : (m c : ℕ) → 0 < c → Behind ss n m c → Behind ss n c (node_at t c).next
  behind_more m c some b =
      let here = behind_is ss n m c b some in
      record { within = here.within; child = λ z. here.child; first = λ z. absurd (omega arith); next = λ z. tree.next c here.within }
