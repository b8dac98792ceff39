-- The entries of the table of some words.
use Rattle.std.proofs.Common.{◌≡◌, ℕ, zero, suc, ◌+◌, ◌<◌, List, [], ◌∷◌, length, get_or, sym, refl, ap, ◌∙◌, subst, add-zero, zero-add, arith}
use Rattle.nodes.specs.Nodes.{strings, string, suffix_mask}
use Rattle.nodes.proofs.Strings.{table_strings}
use Rattle.link.specs.Table.{Tree, Backed, node_of, nodes_from, table_of, node_at}
use Rattle.link.specs.declared.node.Node.{Node}

-- as many nodes as strings
length-nodes : (ws ss : List (List ℕ)) (n : ℕ) (rest : List (List ℕ)) → length (nodes_from ws ss n rest) ≡ length rest
length-nodes ws ss n [] = refl
length-nodes ws ss n (s ∷ rest) = ap suc (length-nodes ws ss (suc n) rest)

pub length-table : (ws : List (List ℕ)) → length (table_of ws) ≡ length (strings ws)
length-table ws = length-nodes ws (strings ws) 0 (strings ws)

node_from : (ws ss : List (List ℕ)) (n : ℕ) (rest : List (List ℕ)) (i : ℕ) → i < length rest → node_at (nodes_from ws ss n rest) i ≡ node_of ws ss (n + i) (get_or rest i [])
node_from ws ss n [] i h = absurd (omega arith)
node_from ws ss n (s ∷ rest) zero h = ap (λ k. node_of ws ss k s) (sym (add-zero n))
node_from ws ss n (s ∷ rest) (suc i) h = node_from ws ss (suc n) rest i (omega arith) ∙ ap (λ k. node_of ws ss k (get_or rest i [])) (omega arith)

-- entry n is the node of string n
pub table_node : (ws : List (List ℕ)) (n : ℕ) → n < length (strings ws) → node_at (table_of ws) n ≡ node_of ws (strings ws) n (string (strings ws) n)
table_node ws n h = node_from ws (strings ws) 0 (strings ws) n h ∙ ap (λ k. node_of ws (strings ws) k (string (strings ws) n)) (zero-add n)

pub table_tree : (ws : List (List ℕ)) → Tree (table_of ws) (strings ws)
table_tree ws = record {
  table = table_strings ws;
  size = length-table ws;
  depth = λ n h. ap (λ (x : Node). x.depth) (table_node ws n h);
  byte = λ n h. ap (λ (x : Node). x.byte) (table_node ws n h);
  first = λ n h. ap (λ (x : Node). x.first) (table_node ws n h);
  next = λ n h. ap (λ (x : Node). x.next) (table_node ws n h);
}

-- so the tree stands in a table that is right
pub right_tree : (ws : List (List ℕ)) (t : List Node) → t ≡ table_of ws → Tree t (strings ws)
right_tree ws t right = subst (λ (u : List Node). Tree u (strings ws)) (sym right) (table_tree ws)

pub table_backed : (ws : List (List ℕ)) (most : ℕ) → Backed (table_of ws) (strings ws) most
table_backed ws most = λ n h short. ap (λ (x : Node). x.back) (table_node ws n h)

pub table_mask : (ws : List (List ℕ)) (n : ℕ) → n < length (strings ws) → (node_at (table_of ws) n).mask ≡ suffix_mask ws (string (strings ws) n)
table_mask ws n h = ap (λ (x : Node). x.mask) (table_node ws n h)
