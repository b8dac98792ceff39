-- The whole table: from the words entered to the table of the words.
use Rattle.std.proofs.Common.{◌≡◌, ℕ, ◌<◌, ◌≤◌, List, [], length, sym, ap, ◌∙◌, subst, ⊎_elim, arith}
use Rattle.std.specs.List.{ContainsAt as Has}
use Rattle.std.proofs.lemmas.List.{ext_get_or}
use Rattle.std.proofs.lemmas.Bool.{cases_eq}
use Rattle.finder.specs.Words.{longest_word}
use Rattle.nodes.specs.Nodes.{strings, string, number, back_link, own_mask, suffix_mask}
use Rattle.nodes.proofs.Meaning.{own_mask-none, suffix_mask-root}
use Rattle.nodes.proofs.Strings.{each_word, has_string, string-short, string-some}
use Rattle.link.specs.Backing.{AllSized, FinishedUpto, finished}
use Rattle.link.specs.Entering.{Entered}
use Rattle.link.specs.Table.{node_at, no_node, table_of}
use Rattle.link.specs.declared.node.Node.{Node}
use Rattle.link.proofs.Changes.{with_back}
use Rattle.link.proofs.TableLaws.{length-table, table_node}

module _ (ws : List (List ℕ)) (sized : AllSized ws) where
  abbrev ss : List (List ℕ)
  ss = strings ws

  -- no word is empty
  none_empty : Has ws [] → ⊥
  none_empty has = let some = each_word (λ w. 0 < length w) ws (λ k h. (sized k h).0) [] has in omega arith

  -- the root is finished when the words are entered
  root_done : (t : List Node) → Entered ws ss t → node_at t 0 ≡ finished ws 0
  root_done t entered =
      let tree = entered.tree in
      let some = tree.table.rooted.some in
      let empty = tree.table.rooted.first in
      let depth_is = tree.depth 0 some in
      let byte-is = tree.byte 0 some in
      let first_is = tree.first 0 some in
      let next-is = tree.next 0 some in
      let back_is = entered.root ∙ sym (tree.table.distinct 0 some) ∙ ap (number ss) empty ∙ sym (ap (back_link ss) empty) in
      let mask_is = entered.mask 0 some ∙ ap (own_mask ws) empty ∙ own_mask-none ws [] none_empty ∙ sym (suffix_mask-root ws (λ k h. (sized k h).0)) ∙ sym (ap (suffix_mask ws) empty) in
      let is : with_back (node_at t 0) (node_at t 0).back (node_at t 0).mask ≡ finished ws 0 = cc in
      is

  pub start_done : (t : List Node) → Entered ws ss t → FinishedUpto ws 0 t
  start_done t entered = record {
    tree = entered.tree;
    done = λ n h short. ⊎_elim (λ z. subst (λ m. node_at t m ≡ finished ws m) (sym z) (root_done t entered)) (λ some. absurd (omega (arith, string-some ss entered.tree.table.rooted entered.tree.table.distinct n (omega arith) h))) (cases_eq n 0);
    own = λ n h deep. entered.mask n h;
  }

  -- all is finished at the greatest depth
  pub all_done : (depth : ℕ) (t : List Node) → longest_word ≤ depth → FinishedUpto ws depth t → t ≡ table_of ws
  all_done depth t past done =
      let size = done.tree.size in
      ext_get_or no_node t (table_of ws) (size ∙ sym (length-table ws)) (λ n h.
      let below : n < length ss = omega arith in
      let short = string-short ws longest_word (λ k h. (sized k h).1) (string ss n) (has_string ss n below) in
      done.done n below (omega arith) ∙ sym (table_node ws n below))
