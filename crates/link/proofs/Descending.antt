-- The nodes of one depth, and the next.
use Rattle.std.proofs.Common.{◌≡◌, ℕ, ◌+◌, ◌<◌, ◌≤◌, Bool, true, false, ◌&&◌, ◌||◌, eqb, ltb, List, length, sym, refl, ap, ◌∙◌, subst, ⊎_elim, arith}
use Rattle.std.specs.List.{ContainsAt as Has}
use Rattle.std.proofs.lemmas.List.{length_push}
use Rattle.std.proofs.lemmas.Bool.{both_ways, cases_Bool, cases_lt, cond-false, cond-true, or_left}
use Rattle.std.proofs.lemmas.Bool.Decides.{nat_tests}
use Rattle.finder.proofs.HalfRead.{decides_same}
use Rattle.nodes.specs.Nodes.{strings, string, parent, last_byte, number, is_child}
use Rattle.nodes.specs.Tables as T
use Rattle.nodes.proofs.Children.{child-is, decides_child}
use Rattle.nodes.proofs.Strings.{has_string, number-below, string-number}
use Rattle.nodes.proofs.Suffixes.{parent-last, parent-push}
use Rattle.link.specs.Backing.{FinishedUpto, Finishes, ReadyChildren, child_of, finished}
use Rattle.link.specs.Table.{node_at}
use Rattle.link.specs.declared.node.Node.{Node}
use Rattle.link.proofs.Finishing.{finishes_keeps, finishes_more, finishes_none, finishes_same, tree_finishes}

-- the number of a node's parent
abbrev pub parent_of : List (List ℕ) → ℕ → ℕ
parent_of ss n = number ss (parent (string ss n))

-- of such a size, and with such a parent, below a depth and before node `at`
abbrev born : ℕ → ℕ → ℕ → ℕ → Bool
born depth at size mine = eqb size (depth + 1) && ltb mine at

-- the children of the nodes of a depth that come before node `at`
abbrev pub born_before : List (List ℕ) → ℕ → ℕ → ℕ → Bool
born_before ss depth at n = born depth at (length (string ss n)) (parent_of ss n)

born-yes : (depth at size mine : ℕ) → size ≡ depth + 1 → mine < at → born depth at size mine ≡ true
born-yes depth at size mine e h = grind (arith, nat_tests)

born-late : (depth at size mine : ℕ) → at ≤ mine → born depth at size mine ≡ false
born-late depth at size mine h = grind (arith, nat_tests)

born-deep : (depth at size mine : ℕ) → depth + 1 < size → born depth at size mine ≡ false
born-deep depth at size mine h = grind (arith, nat_tests)

-- a step past a node that is not the parent
no_more : (depth at size mine : ℕ) → (size ≡ depth + 1 → mine ≡ at → ⊥) → born depth (at + 1) size mine ≡ born depth at size mine
no_more depth at size mine other = grind (arith, nat_tests)

module _ (ss : List (List ℕ)) (table : T.Table ss) where
  -- a node's parent is a node
  has_parent : (n : ℕ) → n < length ss → 0 < length (string ss n) → Has ss (parent (string ss n))
  has_parent n h some = table.closed.shorter (parent (string ss n)) (last_byte (string ss n)) (subst (Has ss) (parent-last (string ss n) some) (has_string ss n h))

  -- a child is one byte longer, and has its parent's number
  child-size : (at n : ℕ) → is_child (string ss at) (string ss n) ≡ true → length (string ss n) ≡ length (string ss at) + 1
  child-size at n is = ap length ((decides_child (string ss at) (string ss n)).0 is) ∙ length_push (string ss at) _

  child-number : (at n : ℕ) → at < length ss → is_child (string ss at) (string ss n) ≡ true → parent_of ss n ≡ at
  child-number at n h is = ap (λ u. number ss (parent u)) ((decides_child (string ss at) (string ss n)).0 is) ∙ ap (number ss) (parent-push (string ss at) _) ∙ table.distinct at h

  -- and who has the number of its parent is its child
  number-child : (at n : ℕ) → n < length ss → 0 < length (string ss n) → parent_of ss n ≡ at → is_child (string ss at) (string ss n) ≡ true
  number-child at n h some e =
      let is : string ss at ≡ parent (string ss n) = ap (string ss) (sym e) ∙ string-number ss _ (has_parent n h some) in
      child-is (string ss at) (string ss n) some ∙ (decides_same (parent (string ss n)) (string ss at)).1 (sym is)

  -- past a node of the depth come its children
  born-more : (depth at n : ℕ) → at < length ss → n < length ss → length (string ss at) ≡ depth → born_before ss depth (at + 1) n ≡ (is_child (string ss at) (string ss n) || born_before ss depth at n)
  born-more depth at n h below deep = ⊎_elim
      (λ is. let size = child-size at n is in let mine = child-number at n h is in born-yes depth (at + 1) (length (string ss n)) (parent_of ss n) (omega arith) (omega arith) ∙ sym (or_left _ _ is))
      (λ not. no_more depth at (length (string ss n)) (parent_of ss n) (λ size mine. both_ways _ not (number-child at n below (omega arith) mine)) ∙ sym (ap (λ x. x || born_before ss depth at n) not))
      (cases_Bool (is_child (string ss at) (string ss n)))

  -- and past another none
  born-same : (depth at n : ℕ) → n < length ss → (length (string ss at) ≡ depth → ⊥) → born_before ss depth at n ≡ born_before ss depth (at + 1) n
  born-same depth at n below other =
      sym (no_more depth at (length (string ss n)) (parent_of ss n) (λ size mine. let longer = child-size at n (number-child at n below (omega arith) mine) in other (omega arith)))

  -- past all nodes come all of the next depth
  born-all : (depth at n : ℕ) → length ss ≤ at → n < length ss → length (string ss n) ≡ depth + 1 → born_before ss depth at n ≡ true
  born-all depth at n past below size = born-yes depth at (length (string ss n)) (parent_of ss n) size (omega (arith, number-below ss _ (has_parent n below (omega arith))))

module _ (ws : List (List ℕ)) (depth : ℕ) (t : List Node) (start : FinishedUpto ws depth t) where
  abbrev strs : List (List ℕ)
  strs = strings ws

  -- at first no child is finished
  pub depth_none : Finishes ws (born_before strs depth 0) t t
  depth_none = finishes_none ws _ t (λ n h. born-late depth 0 (length (string strs n)) (parent_of strs n) (omega arith))

  -- the next depth is finished behind the last node
  pub depth_all : (at : ℕ) (u : List Node) → length u ≤ at → Finishes ws (born_before strs depth at) t u → FinishedUpto ws (depth + 1) u
  depth_all at u past done = record {
    tree = tree_finishes ws _ t u done start.tree;
    done = λ n h short. ⊎_elim
        (λ old. finishes_keeps ws (λ n x. x ≡ finished ws n) _ t u done n h refl (start.done n h (omega arith)))
        (λ new. done.node n h ∙ cond-true _ _ _ (born-all strs start.tree.table depth at n (omega (arith, done.size, start.tree.size)) h (omega arith)))
        (cases_lt (length (string strs n)) (depth + 1));
    own = λ n h deep. ap (λ (x : Node). x.mask) (done.node n h ∙ cond-false _ _ _ (born-deep depth at (length (string strs n)) (parent_of strs n) deep)) ∙ start.own n h (omega arith);
  }

  module _ (at : ℕ) (u : List Node) (h : at < length u) (done : Finishes ws (born_before strs depth at) t u) where
    within : at < length strs
    within = omega (arith, done.size, start.tree.size)

    depth_is : (node_at u at).depth ≡ length (string strs at)
    depth_is = (tree_finishes ws _ t u done start.tree).depth at within

    -- a node of the depth has its children linked next
    pub depth_ready : (node_at u at).depth ≡ depth → ReadyChildren ws at u
    depth_ready e = record {
      ready = record {
        tree = tree_finishes ws _ t u done start.tree;
        within = within;
        done = λ n below short. finishes_keeps ws (λ n x. x ≡ finished ws n) _ t u done n below refl (start.done n below (omega (arith, depth_is)));
      };
      own = λ n below is.
          let size = child-size strs start.tree.table at n is in
          let mine = child-number strs start.tree.table at n within is in
          ap (λ (x : Node). x.mask) (done.node n below ∙ cond-false _ _ _ (born-late depth at (length (string strs n)) (parent_of strs n) (omega arith))) ∙ start.own n below (omega (arith, depth_is));
    }

    pub depth_more : (v : List Node) → (node_at u at).depth ≡ depth → Finishes ws (child_of ws at) u v → Finishes ws (born_before strs depth (at + 1)) t v
    depth_more v e linked = finishes_more ws _ (child_of ws at) _ t u v (λ n below. born-more strs start.tree.table depth at n within below (sym depth_is ∙ e)) done linked

    -- and another is passed over
    pub depth_same : ((node_at u at).depth ≡ depth → ⊥) → Finishes ws (born_before strs depth (at + 1)) t u
    depth_same other = finishes_same ws _ _ t u (λ n below. born-same strs start.tree.table depth at n below (λ e. other (depth_is ∙ e))) done
