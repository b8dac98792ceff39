-- The back link of a child, and the words that are joined along it.
use Rattle.std.proofs.Common.{◌≡◌, ℕ, ◌+◌, ◌<◌, List, [], ◌∷◌, ◌++◌, length, sym, ap, ◌∙◌, subst, arith}
use lib.Bits.{bit_or}
use Rattle.std.proofs.lemmas.List.{length_push}
use Rattle.nodes.specs.Nodes.{strings, string, last_byte, number, back_string, back_link, step, suffix_mask}
use Rattle.nodes.proofs.Back.{back_child, back_is, back_link-below, string-back_link}
use Rattle.nodes.proofs.Children.{decides_child}
use Rattle.nodes.proofs.Meaning.{suffix_mask-back}
use Rattle.nodes.proofs.Strings.{string-some}
use Rattle.link.specs.Backing.{OpenChild, Ready, finished}
use Rattle.link.specs.Table.{Backed, Leads, node_at}
use Rattle.link.specs.declared.node.Node.{Node}
use Rattle.link.proofs.Changes.{with_back}

module _ (ws : List (List ℕ)) (at : ℕ) (t : List Node) (ready : Ready ws at t) where
  abbrev ss : List (List ℕ)
  ss = strings ws

  abbrev s : List ℕ
  s = string ss at

  -- the node's own back link
  abbrev from : ℕ
  from = (node_at t at).back

  from_is : from ≡ back_link ss s
  from_is = ap (λ (x : Node). x.back) (ready.done at ready.within (omega arith))

  from-string : string ss from ≡ back_string ss s
  from-string = ap (string ss) from_is ∙ string-back_link ss ready.tree.table.closed.root s

  pub from-within : from < length t
  from-within = subst (λ n. from < n) (sym ready.tree.size) (subst (λ x. x < length ss) (sym from_is) (back_link-below ss ready.tree.table.closed.root s))

  some_string : 0 < at → 0 < length s
  some_string above = string-some ss ready.tree.table.rooted ready.tree.table.distinct at above ready.within

  -- it is no deeper than the node, so its back links are there
  pub from-backed : 0 < at → Backed t ss (length (string ss from))
  from-backed above n below most =
      let shorter = (back_is ss ready.tree.table.closed.root s (some_string above)).shorter in
      ap (λ (x : Node). x.back) (ready.done n below (omega (arith, ap length from-string)))

  -- below the root it is the root
  pub back_root : (b : ℕ) → at ≡ 0 → 0 ≡ back_link ss (s ++ (b ∷ []))
  back_root b z =
      let empty : s ≡ [] = ap (string ss) z ∙ ready.tree.table.rooted.first in
      sym (ready.tree.table.distinct 0 ready.tree.table.rooted.some) ∙ ap (number ss) ready.tree.table.rooted.first ∙ sym (ap (λ u. back_link ss (u ++ (b ∷ []))) empty)

  -- and else where the byte leads
  pub back_followed : (b r : ℕ) → 0 < at → Leads ss from b r → r ≡ back_link ss (s ++ (b ∷ []))
  back_followed b r above (below, leads) =
      sym (ready.tree.table.distinct r below) ∙ ap (number ss) (leads ∙ ap (λ u. step ss u b) from-string ∙ sym (back_child ss ready.tree.table.closed s b (some_string above)))

  -- a child with its back link and the words found there is as in the table of the words
  pub child-linked : (n r : ℕ) → OpenChild ws at n t → r ≡ back_link ss (s ++ ((node_at t n).byte ∷ [])) → with_back (node_at t n) r (bit_or (node_at t n).mask (node_at t r).mask) ≡ finished ws n
  child-linked n r child is =
      let u = string ss n in
      let u-is : u ≡ s ++ (last_byte u ∷ []) = (decides_child s u).0 child.child in
      let size : length u ≡ length s + 1 = ap length u-is ∙ length_push s (last_byte u) in
      let root = ready.tree.table.closed.root in
      let byte-is = ready.tree.byte n child.within in
      let back-is-u : r ≡ back_link ss u = is ∙ ap (λ b. back_link ss (s ++ (b ∷ []))) byte-is ∙ ap (back_link ss) (sym u-is) in
      let string-r : string ss r ≡ back_string ss u = ap (string ss) back-is-u ∙ string-back_link ss root u in
      let below : r < length ss = subst (λ x. x < length ss) (sym back-is-u) (back_link-below ss root u) in
      let shorter = (back_is ss root u (omega arith)).shorter in
      let mask-r : (node_at t r).mask ≡ suffix_mask ws (back_string ss u) = ap (λ (x : Node). x.mask) (ready.done r below (omega (arith, ap length string-r))) ∙ ap (suffix_mask ws) string-r in
      let depth_is = ready.tree.depth n child.within in
      let first_is = ready.tree.first n child.within in
      let next-is = ready.tree.next n child.within in
      let own = child.own in
      let joined = suffix_mask-back ws u (omega arith) in
      cc
