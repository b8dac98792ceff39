-- The first entries of a table, from the root on.
use Rattle.std.proofs.Common.{◌≡◌, ℕ, zero, suc, ◌<◌, List, [], ◌∷◌, length, set, refl, ◌∙◌, arith}
use Rattle.std.proofs.lemmas.List.{get_or-set_other}
use Rattle.nodes.specs.Nodes.{strings, string, last_byte, first_child, next_sibling, own_mask}
use Rattle.nodes.proofs.Strings.{table_strings}
use Rattle.link.specs.Entering.{Holds}
use Rattle.link.specs.Table.{node_at, no_node}
use Rattle.link.specs.declared.node.Node.{Node}

-- without words there is only the root
only_root : (P : ℕ → List ℕ → Type 0) → P 0 [] → (n : ℕ) → n < length (strings []) → P n (string (strings []) n)
only_root P root zero h = root
only_root P root (suc n) h = absurd (omega arith)

-- and a table in which it is written holds it
pub holds-root : (t : List Node) → 0 < length t → Holds [] 1 (set t 0 no_node) (set t 0 no_node)
holds-root [] some = absurd (omega arith)
holds-root (x ∷ t) some = record {
  size = refl;
  entered = record {
    tree = record {
      table = table_strings [];
      size = refl;
      depth = only_root (λ n s. (node_at (no_node ∷ []) n).depth ≡ length s) refl;
      byte = only_root (λ n s. (node_at (no_node ∷ []) n).byte ≡ last_byte s) refl;
      first = only_root (λ n s. (node_at (no_node ∷ []) n).first ≡ first_child ([] ∷ []) s) refl;
      next = only_root (λ n s. (node_at (no_node ∷ []) n).next ≡ next_sibling ([] ∷ []) n s) refl;
    };
    root = refl;
    mask = only_root (λ n s. (node_at (no_node ∷ []) n).mask ≡ own_mask [] s) refl;
  };
  rest = λ n above. refl;
}

-- the table may be its own start
pub holds-own : (us : List (List ℕ)) (count : ℕ) (before t : List Node) → Holds us count before t → Holds us count t t
holds-own us count before t holds = record { size = holds.size; entered = holds.entered; rest = λ n above. refl }

-- or its start may be before the root was written
pub holds-unrooted : (us : List (List ℕ)) (count : ℕ) (before t : List Node) → Holds us count (set before 0 no_node) t → Holds us count before t
holds-unrooted us count before t holds = record {
  size = holds.size;
  entered = holds.entered;
  rest = λ n above. holds.rest n above ∙ get_or-set_other before 0 n no_node no_node (λ e. omega (arith, holds.size, holds.entered.tree.table.rooted.some));
}
