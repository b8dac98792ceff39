-- One node more in a table: the last child of a node.
use Rattle.std.proofs.Common.{◌≡◌, ℕ, ◌+◌, ◌<◌, ◌≤◌, List, [], ◌∷◌, ◌++◌, length, take, set, sym, refl, ap, ◌∙◌, ⊎_elim, arith}
use Rattle.std.specs.List.{ContainsAt as Has}
use Rattle.std.proofs.lemmas.List.{get_or_append_left, get_or_push, get_or-set_other, get_or-set_same, get_or-take, length_push, length-set, length-take}
use Rattle.std.proofs.lemmas.Bool.{cases_eq, cases_lt}
use Rattle.nodes.specs.Nodes.{string, last_byte, first_child, next_sibling, own_mask}
use Rattle.nodes.proofs.Children.{first_child-new, next_sibling-new}
use Rattle.nodes.proofs.Meaning.{own_mask-none}
use Rattle.nodes.proofs.Strings.{has_string, table_push}
use Rattle.nodes.proofs.Suffixes.{last_push}
use Rattle.link.specs.Entering.{Behind, Entered}
use Rattle.link.specs.Table.{Tree, node_at, no_node}
use Rattle.link.specs.declared.node.Node.{Node}
use Rattle.link.proofs.Changes.{leaf, with_links}
use Rattle.link.proofs.Pushing.{first_new, first_other, next-new, next-other}

-- the strings, with a child of node `at` behind them
abbrev pub with_child : List (List ℕ) → ℕ → ℕ → List (List ℕ)
with_child ss at b = ss ++ ((string ss at ++ (b ∷ [])) ∷ [])

-- the nodes of ss have the links that they have in `more`, and all else is as before
pub record Relinked (ss more : List (List ℕ)) (t u : List Node) : Type 0 where
  pub links : (n : ℕ) → n < length ss → node_at u n ≡ with_links (node_at t n) (first_child more (string ss n)) (next_sibling more n (string ss n))
  pub rest : (n : ℕ) → length ss ≤ n → node_at u n ≡ node_at t n

-- node `at` has one child more, with byte b, behind child `last`
module _ (t : List Node) (ss : List (List ℕ)) (tree : Tree (take (length ss) t) ss) (at b last : ℕ) (within : at < length ss) (behind : Behind ss at last 0) (room : length ss < length t) where
  abbrev more : List (List ℕ)
  more = with_child ss at b

  first_is : (n : ℕ) → n < length ss → (node_at t n).first ≡ first_child ss (string ss n)
  first_is n h = ap (λ (x : Node). x.first) (sym (get_or-take (length ss) t n no_node h)) ∙ tree.first n h

  next-is : (n : ℕ) → n < length ss → (node_at t n).next ≡ next_sibling ss n (string ss n)
  next-is n h = ap (λ (x : Node). x.next) (sym (get_or-take (length ss) t n no_node h)) ∙ tree.next n h

  -- where only the links of node p change, it is enough to write those
  relinked : (p first next : ℕ) → p < length ss → first ≡ first_child more (string ss p) → next ≡ next_sibling more p (string ss p)
      → ((n : ℕ) → n < length ss → (n ≡ p → ⊥) → (first_child more (string ss n) ≡ first_child ss (string ss n)) × (next_sibling more n (string ss n) ≡ next_sibling ss n (string ss n)))
      → Relinked ss more t (set t p (with_links (node_at t p) first next))
  relinked p first next below f x kept =
      let written = get_or-set_same t p (with_links (node_at t p) first next) no_node (omega arith) in
      record {
        links = λ n h. ⊎_elim
            (λ e. let same-node = ap (node_at t) e in let same-string = ap (string ss) e in cc)
            (λ other.
            let (f-kept, x-kept) = kept n h other in
            let f-is = first_is n h in
            let x-is = next-is n h in
            get_or-set_other t p n (with_links (node_at t p) first next) no_node other ∙ ap (λ m. with_links (node_at t n) m (node_at t n).next) (f-is ∙ sym f-kept) ∙ ap (with_links (node_at t n) (first_child more (string ss n))) (x-is ∙ sym x-kept))
            (cases_eq n p);
        rest = λ n h. get_or-set_other t p n _ no_node (λ e. omega arith);
      }

  -- the new child is the first where there was none
  pub linked_first : last ≡ 0 → Relinked ss more t (set t at (with_links (node_at t at) (length ss) (node_at t at).next))
  linked_first z =
      let others = next-other ss tree.table at b last within behind in
      relinked at (length ss) (node_at t at).next within (sym (first_new ss tree.table at b last within behind z)) (next-is at within ∙ sym (others at within (λ some e. omega arith)))
      (λ n h other. (first_other ss tree.table at b last within behind n h (λ y e. other e), others n h (λ some e. omega arith)))

  -- and else the next behind the last
  pub linked_next : 0 < last → Relinked ss more t (set t last (with_links (node_at t last) (node_at t last).first (length ss)))
  linked_next some =
      let others = first_other ss tree.table at b last within behind in
      relinked last (node_at t last).first (length ss) behind.within (first_is last behind.within ∙ sym (others last behind.within (λ z e. omega arith))) (sym (next-new ss tree.table at b last within behind some))
      (λ n h other. (others n h (λ z e. omega arith), next-other ss tree.table at b last within behind n h (λ y e. other e)))

-- the new child is written behind the nodes that are linked to it
module _ (t u : List Node) (us ss : List (List ℕ)) (entered : Entered us ss (take (length ss) t)) (at b : ℕ) (within : at < length ss) (linked : Relinked ss (with_child ss at b) t u) (room : length ss < length u) where
  abbrev child : List ℕ
  child = string ss at ++ (b ∷ [])

  abbrev all : List (List ℕ)
  all = with_child ss at b

  abbrev new_node : Node
  new_node = leaf ((node_at u at).depth + 1) b

  abbrev grown : List Node
  grown = set u (length ss) new_node

  -- an old node, as the table has it
  abbrev old_node : ℕ → Node
  old_node n = with_links (node_at (take (length ss) t) n) (first_child all (string ss n)) (next_sibling all n (string ss n))

  -- what holds of the old nodes and of the new one holds of all
  each : (P : ℕ → Node → List ℕ → Type 0) → ((n : ℕ) → n < length ss → P n (old_node n) (string ss n)) → P (length ss) new_node child
      → (n : ℕ) → n < length all → P n (node_at (take (length ss + 1) grown) n) (string all n)
  each P old new n below = ⊎_elim at_old at_new (cases_lt n (length ss))
    where
      here : node_at (take (length ss + 1) grown) n ≡ node_at grown n
      here = get_or-take (length ss + 1) grown n no_node (omega (arith, length_push ss child))

      at_old : n < length ss → P n (node_at (take (length ss + 1) grown) n) (string all n)
      at_old lower =
          let kept = get_or-set_other u (length ss) n new_node no_node (λ e. omega arith) in
          let front = ap (λ x. with_links x (first_child all (string ss n)) (next_sibling all n (string ss n))) (sym (get_or-take (length ss) t n no_node lower)) in
          rw (here ∙ kept ∙ linked.links n lower ∙ front, get_or_append_left ss (child ∷ []) [] n lower) (old n lower)

      at_new : length ss ≤ n → P n (node_at (take (length ss + 1) grown) n) (string all n)
      at_new upper =
          let e : n ≡ length ss = omega (arith, length_push ss child) in
          rw (here ∙ ap (node_at grown) e ∙ get_or-set_same u (length ss) new_node no_node room, get_or_push ss child [] n (sym e), e) new

  -- the depth of the new node
  depth_new : (node_at u at).depth + 1 ≡ length child
  depth_new =
      let kept = ap (λ (x : Node). x.depth) (linked.links at within) in
      let is = ap (λ (x : Node). x.depth) (sym (get_or-take (length ss) t at no_node within)) ∙ entered.tree.depth at within in
      omega (arith, length_push (string ss at) b)

  -- the nodes are then those of all strings
  pub entered_new : (Has ss child → ⊥) → (Has us child → ⊥) → Entered us all (take (length ss + 1) grown)
  entered_new new none =
      let rooted = entered.tree.table.rooted in
      record {
        tree = record {
          table = table_push ss (string ss at) b (has_string ss at within) new entered.tree.table;
          size = simp (length-take, length-set, length_push) (omega arith);
          depth = each (λ n x s. x.depth ≡ length s) entered.tree.depth depth_new;
          byte = each (λ n x s. x.byte ≡ last_byte s) entered.tree.byte (sym (last_push (string ss at) b));
          first = each (λ n x s. x.first ≡ first_child all s) (λ n h. refl) (sym (first_child-new ss (string ss at) b rooted entered.tree.table.closed new));
          next = each (λ n x s. x.next ≡ next_sibling all n s) (λ n h. refl) (sym (next_sibling-new ss child));
        };
        root = each (λ n x s. n ≡ 0 → x.back ≡ 0) (λ n h e. ap (λ m. (node_at (take (length ss) t) m).back) e ∙ entered.root) (λ e. refl) 0 (omega (arith, length_push ss child)) refl;
        mask = each (λ n x s. x.mask ≡ own_mask us s) entered.mask (sym (own_mask-none us child none));
      }
