-- The entries of the table, number by number.
use Rattle.std.proofs.Common.{◌≡◌, ℕ, ◌-◌, ◌<◌, Bool, List, [], length, get_or, take, drop, sym, refl, ap, ◌∙◌, ⊎_elim, arith}
use Rattle.std.proofs.lemmas.List.{length-take-le}
use Rattle.finder.specs.Words.{word}
use Rattle.nodes.specs.Nodes.{strings, string, is_child, lowest, first_child, back_link, suffix_mask}
use Rattle.nodes.proofs.Back.{back_link-below}
use Rattle.nodes.proofs.Children.{child-root, lowest-is}
use Rattle.nodes.proofs.Meaning.{suffix_mask-root}
use Rattle.nodes.proofs.Strings.{has_root, rooted_strings}
use Rattle.words.specs.Index.{indexed}
use Rattle.words.specs.declared.words.Words.{Words}
use Rattle.link.specs.Shape.{Makes, shared_by, made_by, branch_of}
use Rattle.link.specs.Table.{node_at, node_of, table_of}
use Rattle.link.proofs.Backing.{left-none}
use Rattle.link.proofs.Beginning.{shared-is}
use Rattle.link.proofs.Branching.{child-front, lowest-only, next-is}
use Rattle.link.proofs.Making.{makes_node, makes_string, nodes_few}
use Rattle.link.proofs.TableLaws.{table_node}

-- the numbers of nodes are small
pub lowest-small : (w : Words) (f : List ℕ → Bool) (n : ℕ) → lowest n (drop n (strings (indexed w))) f < 65536
lowest-small w f n =
    let ws = indexed w in
    ⊎_elim (λ none. omega (arith, none.0)) (λ next. omega (arith, next.within, nodes_few w)) (lowest-is (strings ws) f n)

pub back_small : (w : Words) (s : List ℕ) → back_link (strings (indexed w)) s < 65536
back_small w s = omega (arith, back_link-below (strings (indexed w)) (has_root (indexed w)) s, nodes_few w)

-- the entry of the node that word k, here w, makes of its first d bytes
pub entry_made : (ws : List (List ℕ)) (k d : ℕ) → Makes ws k d → (w : List ℕ) → w ≡ word ws k → (first next back mask : ℕ)
    → first ≡ first_child (strings ws) (take d (word ws k)) → next ≡ branch_of ws k (d - 1) → back ≡ back_link (strings ws) (take d w) → mask ≡ suffix_mask ws (take d w)
    → record { depth = d; byte = get_or (take d w) (d - 1) 0; first = first; next = next; back = back; mask = mask } ≡ node_at (table_of ws) (made_by ws k d)
entry_made ws k d made w at first next back mask first-at next-at back_at mask_at =
    let here = table_node ws (made_by ws k d) (makes_node ws k d made) ∙ ap (node_of ws (strings ws) (made_by ws k d)) (makes_string ws k d made) in
    let size = length-take-le d (word ws k) made.within in
    let sibling = next-is ws k d made in
    cc

-- the first word makes the root's first child
module _ (ws : List (List ℕ)) (some : 0 < length ws) (sized : (k : ℕ) → k < length ws → 0 < length (word ws k)) where
  first_shares : shared_by ws 0 ≡ 0
  first_shares = shared-is ws 0 0 (omega arith) (has_root (take 0 ws)) (λ more j below. absurd (omega arith))

  first_made : Makes ws 0 1
  first_made = record { inside = some; above = omega (arith, first_shares); within = sized 0 some }

  one : made_by ws 0 1 ≡ 1
  one = omega (arith, first_shares)

  root_first : first_child (strings ws) [] ≡ 1
  root_first = lowest-only (strings ws) (is_child []) 0 1 (record {
    from = omega arith;
    within = omega (arith, makes_node ws 0 1 first_made, one);
    passes = ap (λ n. is_child [] (string (strings ws) n)) (sym one) ∙ ap (is_child []) (makes_string ws 0 1 first_made) ∙ child-front (word ws 0) 0 (sized 0 some);
    before = λ n from below. ap (λ m. is_child [] (string (strings ws) m)) (omega arith) ∙ child-root (strings ws) [] (rooted_strings ws);
  })

  -- the root's entry
  pub entry_root : node_at (table_of ws) 0 ≡ record { depth = 0; byte = 0; first = 1; next = 0; back = 0; mask = 0 }
  entry_root =
      let at = table_node ws 0 (rooted_strings ws).some ∙ ap (node_of ws (strings ws) 0) (rooted_strings ws).first in
      let first = root_first in
      let back = left-none ws [] 0 refl (omega arith) in
      let mask = suffix_mask-root ws sized in
      cc
