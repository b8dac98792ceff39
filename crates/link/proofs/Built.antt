-- A table of which the front is written.
use Rattle.std.proofs.Common.{◌≡◌, ℕ, ◌+◌, ◌≤◌, List, ◌++◌, length, drop, None, Ok, sym, ap, ◌∙◌, arith}
use Rattle.std.proofs.lemmas.List.{ext_get_or, get_or-drop, length-drop}
use Rattle.words.specs.Index.{Indexes, indexed}
use Rattle.words.specs.declared.words.Words.{Words}
use Rattle.nodes.specs.Nodes.{strings}
use Rattle.link.specs.Building.{Builds}
use Rattle.link.specs.Mounting.{size_fault}
use Rattle.link.specs.Table.{no_node, node_at, table_of}
use Rattle.link.specs.declared.node.Node.{Node}
use Rattle.link.proofs.Admission.{admitted, same-refusal}

-- tables that agree from entry n on have the same entries there
pub drop-same : (n : ℕ) (a b : List Node) → length a ≡ length b → ((k : ℕ) → n ≤ k → node_at a k ≡ node_at b k) → drop n a ≡ drop n b
drop-same n a b same each =
    ext_get_or no_node (drop n a) (drop n b) (omega (arith, length-drop n a, length-drop n b)) (λ i h. get_or-drop n a i no_node ∙ each (n + i) (omega arith) ∙ sym (get_or-drop n b i no_node))

-- with the table of an admitted list's words in front, it is built
pub built : (l : List ℕ) (w : Words) (before after : List Node) (used : ℕ) → size_fault l (length before) ≡ None → Indexes l w → used ≡ length (strings (indexed w)) → after ≡ table_of (indexed w) ++ drop used before → Builds l before after (Ok used)
built l w before after used none index count nodes =
    let words = (admitted l (length before) w none index).words in
    (same-refusal l (length before) w index ∙ none, count ∙ ap (λ ws. length (strings ws)) words, nodes ∙ ap (λ ws. table_of ws ++ drop used before) words)
