-- From the node that is reached to the next.
use Rattle.std.proofs.Common.{◌≡◌, ℕ, ◌+◌, ◌<◌, List, [], ◌∷◌, ◌++◌, length, get_or, take, set, Some, None, Option, sym, refl, ap, ◌∙◌, subst, arith}
use Rattle.std.specs.List.{ContainsAt as Has}
use Rattle.std.proofs.ByRecursion.{has_append_left}
use Rattle.std.proofs.lemmas.List.{get_or_push, get_or-set_other, get_or-take, length_push, length-take, take_more}
use Rattle.nodes.specs.Nodes.{strings, string}
use Rattle.nodes.proofs.Strings.{has_string, has_word}
use Rattle.link.specs.Entering.{Behind, Entered, Holds, InFront, Reaches}
use Rattle.link.specs.Table.{Child, node_at, no_node}
use Rattle.link.specs.declared.enter.Reached.{Reached}
use Rattle.link.specs.declared.node.Node.{Node}
use Rattle.link.proofs.Adding.{Relinked, entered_new, linked_first, linked_next, with_child}
use Rattle.link.proofs.Changes.{leaf, with_links}
use Rattle.link.proofs.Walk.{IsLast, child_answer, last_answer, tree_chained}
use Rattle.link.specs.Children.{Chained, child_with, last_child}
use Rattle.link.proofs.Growing.{strings-new, strings-nothing, strings-there}

module _ (us : List (List ℕ)) (v : List ℕ) (before t : List Node) (r : Reached) (reaches : Reaches us v before t r) where
  abbrev ss : List (List ℕ)
  ss = strings (us ++ (v ∷ []))

  abbrev size : r.count ≡ length ss
  size = reaches.front.size

  -- the nodes in front
  entered_here : Entered us ss (take (length ss) t)
  entered_here = subst (λ n. Entered us ss (take n t)) size reaches.front.entered

  within_here : r.node < length ss
  within_here = subst (λ n. r.node < n) size reaches.within

  -- the node reached is in the table
  pub reaches_fits : r.node < length t
  reaches_fits = let within = within_here in omega (arith, entered_here.tree.size, length-take (length ss) t)

  pub front_within : r.node < length (take r.count t)
  front_within = omega (arith, reaches.front.entered.tree.size, reaches.front.size, reaches.within)

  -- the nodes in front are chained
  pub reaches_chained : Chained (take r.count t)
  reaches_chained = tree_chained (take r.count t) ss reaches.front.entered.tree

  -- the child that is found there, and the last child
  pub reaches_child : (b : ℕ) (o : Option ℕ) → o ≡ child_with (take r.count t) r.node b → Child ss r.node b o
  reaches_child b o is = child_answer (take r.count t) ss reaches.front.entered.tree r.node front_within b o is

  pub reaches_last : (o : Option ℕ) → o ≡ last_child (take r.count t) r.node → IsLast (take r.count t) ss reaches.front.entered.tree r.node front_within o
  reaches_last o is = last_answer (take r.count t) ss reaches.front.entered.tree r.node front_within o is

  pub last_within : (last : ℕ) → Some last ≡ last_child (take r.count t) r.node → last < length t
  last_within last is =
      let (some, behind) = reaches_last (Some last) is in
      let below = behind.within in
      omega (arith, reaches.front.entered.tree.size, length-take r.count t)

  -- the table may be its own start
  pub reaches_own : Reaches us v t t r
  reaches_own = record { front = record { size = size; entered = reaches.front.entered; rest = λ n above. refl }; within = reaches.within; node = reaches.node }

  module _ (b : ℕ) where
    abbrev more : List (List ℕ)
    more = with_child ss r.node b

    module _ (last : ℕ) (behind : Behind ss r.node last 0) (room : r.count < length t) where
      -- the next number as the first child
      pub first_link : last ≡ 0 → Relinked ss more t (set t r.node (with_links (node_at t r.node) r.count (node_at t r.node).next))
      first_link z =
          subst (λ n. Relinked ss more t (set t r.node (with_links (node_at t r.node) n (node_at t r.node).next))) (sym size)
          (linked_first t ss entered_here.tree r.node b last within_here behind (omega (arith, size)) z)

      -- or as the next behind the last
      pub next-link : 0 < last → Relinked ss more t (set t last (with_links (node_at t last) (node_at t last).first r.count))
      next-link some =
          subst (λ n. Relinked ss more t (set t last (with_links (node_at t last) (node_at t last).first n))) (sym size)
          (linked_next t ss entered_here.tree r.node b last within_here behind (omega (arith, size)) some)

    -- the node reached stays as deep as the symbols are many
    pub depth_linked : (u : List Node) → Relinked ss more t u → (node_at u r.node).depth ≡ length v
    depth_linked u linked =
        let depth : Node → ℕ = λ x. x.depth in
        ap depth (linked.links r.node within_here) ∙ ap depth (sym (get_or-take (length ss) t r.node no_node within_here)) ∙ entered_here.tree.depth r.node within_here ∙ ap length reaches.node

    -- the new node is reached
    pub reaches_new : (u : List Node) → Relinked ss more t u → r.count < length u → (Has ss (v ++ (b ∷ [])) → ⊥)
        → Reaches us (v ++ (b ∷ [])) before (set u r.count (leaf ((node_at u r.node).depth + 1) b)) (record { node = r.count; count = r.count + 1 })
    reaches_new u linked room new =
        let e = reaches.node in
        let x = leaf ((node_at u r.node).depth + 1) b in
        let is : strings (us ++ ((v ++ (b ∷ [])) ∷ [])) ≡ more = strings-new us v b new ∙ ap (λ s. ss ++ ((s ++ (b ∷ [])) ∷ [])) (sym e) in
        let apart : Has ss (string ss r.node ++ (b ∷ [])) → ⊥ = λ has. new (subst (λ s. Has ss (s ++ (b ∷ []))) e has) in
        let roomy : length ss < length u = omega (arith, size) in
        let all_there : (w : List ℕ) → Has us w → Has ss w = λ w has. has_word (us ++ (v ∷ [])) w (has_append_left us (v ∷ []) w has) in
        let entered = entered_new t u us ss entered_here r.node b within_here linked roomy apart (λ has. apart (all_there _ has)) in
        record {
          front = record {
            size = omega (arith, ap length is, length_push ss (string ss r.node ++ (b ∷ [])), size);
            entered = subst (λ all. Entered us all (take (r.count + 1) (set u r.count x))) (sym is) (subst (λ n. Entered us more (take (n + 1) (set u n x))) (sym size) entered);
            rest = λ n above. get_or-set_other u r.count n x no_node (λ same. omega arith) ∙ linked.rest n (omega (arith, size)) ∙ reaches.front.rest n (omega arith);
          };
          within = omega arith;
          node = ap (λ all. string all r.count) is ∙ get_or_push ss _ [] r.count (sym size) ∙ ap (λ s. s ++ (b ∷ [])) e;
        }

    -- or the child is there
    pub reaches_there : (n : ℕ) → Child ss r.node b (Some n) → Reaches us (v ++ (b ∷ [])) before t (record { node = n; count = r.count })
    reaches_there n (below, is) =
        let here : string ss n ≡ v ++ (b ∷ []) = is ∙ ap (λ s. s ++ (b ∷ [])) reaches.node in
        let same = strings-there us v b (subst (Has ss) here (has_string ss n below)) in
        record {
          front = subst (λ all. InFront us all r.count before t) (sym same) reaches.front;
          within = subst (λ m. n < m) (sym size) below;
          node = ap (λ all. string all n) same ∙ here;
        }

    -- or there is none
    pub none_there : Child ss r.node b None → Has ss (v ++ (b ∷ [])) → ⊥
    none_there none has = none (subst (λ s. Has ss (s ++ (b ∷ []))) (sym reaches.node) has)

-- a word begins at the root
pub reaches_root : (us : List (List ℕ)) (count : ℕ) (before t : List Node) → Holds us count before t → Reaches us [] before t (record { node = 0; count = count })
reaches_root us count before t holds =
    let same = strings-nothing us in
    let rooted = holds.entered.tree.table.rooted in
    record {
      front = subst (λ ss. InFront us ss count before t) (sym same) holds;
      within = omega (arith, holds.size, rooted.some);
      node = ap (λ ss. string ss 0) same ∙ rooted.first;
    }

-- and goes on with its next symbol
pub reaches_more : (us : List (List ℕ)) (w : List ℕ) (before t : List Node) (r : Reached) (i b : ℕ) → i < length w → b ≡ get_or w i 0 → Reaches us (take i w ++ (b ∷ [])) before t r → Reaches us (take (i + 1) w) before t r
reaches_more us w before t r i b inside is = subst (λ v. Reaches us v before t r) (ap (λ x. take i w ++ (x ∷ [])) is ∙ sym (take_more w i 0 inside))
