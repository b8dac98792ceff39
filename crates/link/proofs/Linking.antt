-- The children of a node linked back, one behind the other.
use Rattle.std.proofs.Common.{◌≡◌, ℕ, ◌<◌, Bool, true, false, ◌&&◌, ◌||◌, eqb, ltb, List, length, set, sym, refl, ap, ◌∙◌, subst, ⊎_elim, arith}
use Rattle.std.proofs.lemmas.List.{get_or-set_same, length-set}
use Rattle.std.proofs.lemmas.Bool.{and_from, and_left, and_right, both_ways, cases_Bool, cases_eq, eq-eqb, ne_eqb, cond-false, or_from, or_left}
use Rattle.std.proofs.lemmas.Bool.Decides.{nat_tests}
use Rattle.nodes.specs.Nodes.{strings, string, first_child, next_sibling}
use Rattle.nodes.specs.Tables as T
use Rattle.nodes.proofs.Children.{first_child-none, first_child-some, next_sibling-none, next_sibling-some}
use Rattle.link.specs.Backing.{Finishes, OpenChild, Ready, ReadyChildren, child_of, finished}
use Rattle.link.specs.Table.{node_at, no_node}
use Rattle.link.specs.declared.node.Node.{Node}
use Rattle.link.proofs.Finishing.{finishes_more, finishes_none, finishes_one, finishes_same, ready_finishes}
use Rattle.link.proofs.Following.{left, left-falls}

-- the number n comes before c, any where c is 0
abbrev pub before : ℕ → ℕ → Bool
before c n = eqb c 0 || ltb n c

-- c is a child of node `at`, or 0 behind the last, and the children before it are finished
pub record LinkedUpto (ws : List (List ℕ)) (at c : ℕ) (t u : List Node) : Type 0 where
  pub within : c < length (strings ws)
  pub child : 0 < c → child_of ws at c ≡ true
  pub finishes : Finishes ws (λ n. child_of ws at n && before c n) t u

-- what comes before none, and before the next
before-none : (c n : ℕ) → (c ≡ 0 → ⊥) → (n < c → ⊥) → before c n ≡ false
before-none c n some upper = grind (arith, nat_tests)

before-later : (next c : ℕ) → (0 < next → c < next) → before next c ≡ true
before-later next c later = grind (arith, nat_tests)

before-other : (next c n : ℕ) → 0 < c → (n ≡ c → ⊥) → (0 < next → c < next) → (c < n → next ≡ 0 → ⊥) → (c < n → n < next → ⊥) → before next n ≡ before c n
before-other next c n some other later ends between = grind (arith, nat_tests)

-- with none left, all children
and_true : (x : Bool) → (x && true) ≡ x
and_true true = refl
and_true false = refl

module _ (ws : List (List ℕ)) (at : ℕ) (t : List Node) (ready : ReadyChildren ws at t) where
  abbrev ss : List (List ℕ)
  ss = strings ws

  abbrev s : List ℕ
  s = string ss at

  rooted : T.Rooted ss
  rooted = ready.ready.tree.table.rooted

  -- before the first child there is none
  none_before : (n : ℕ) → n < length ss → (child_of ws at n && before (first_child ss s) n) ≡ false
  none_before n h = ⊎_elim
      (λ is.
      let some : first_child ss s ≡ 0 → ⊥ = λ z. both_ways _ ((first_child-none ss s rooted).0 z n (omega arith) h) is in
      let upper : n < first_child ss s → ⊥ = λ lower. both_ways _ ((first_child-some ss s (omega arith)).before n (omega arith) lower) is in
      and_right _ _ (before-none (first_child ss s) n some upper))
      (and_left _ _)
      (cases_Bool (child_of ws at n))

  -- so none is finished at first
  pub linked_none : LinkedUpto ws at (node_at t at).first t t
  linked_none = subst (λ c. LinkedUpto ws at c t t) (sym (ready.ready.tree.first at ready.ready.within)) (record {
    within = ⊎_elim (λ z. subst (λ c. c < length ss) (sym z) rooted.some) (λ some. (first_child-some ss s (omega arith)).within) (cases_eq (first_child ss s) 0);
    child = λ some. (first_child-some ss s some).passes;
    finishes = finishes_none ws _ t none_before;
  })

  -- all are behind the last
  pub linked_all : (u : List Node) → LinkedUpto ws at 0 t u → Finishes ws (child_of ws at) t u
  linked_all u linked = finishes_same ws _ (child_of ws at) t u (λ n h. and_true (child_of ws at n)) linked.finishes

  module _ (c : ℕ) (u : List Node) (some : 0 < c) (linked : LinkedUpto ws at c t u) where
    -- what the next needs is finished
    pub ready_next : Ready ws at u
    ready_next = ready_finishes ws _ t u at linked.finishes ready.ready

    -- and it is still marked with its own words only
    pub open_next : OpenChild ws at c u
    open_next =
        let unfinished = cond-false (child_of ws at c && before c c) (finished ws c) (node_at t c) (and_right _ _ (before-none c c (λ z. omega arith) (λ less. omega arith))) in
        record {
          within = linked.within;
          child = linked.child some;
          own = ap (λ (x : Node). x.mask) (linked.finishes.node c linked.within ∙ unfinished) ∙ ready.own c linked.within (linked.child some);
        }

    abbrev next : ℕ
    next = next_sibling ss c (string ss c)

    later : 0 < next → c < next
    later h = (next_sibling-some ss c s (string ss c) (linked.child some) h).from

    -- up to the next sibling there is one child more
    one_more : (n : ℕ) → n < length ss → (child_of ws at n && before next n) ≡ (eqb n c || (child_of ws at n && before c n))
    one_more n h = ⊎_elim here (λ other. ⊎_elim (child other) (λ is. and_left _ _ is ∙ sym (or_from _ _ (ne_eqb n c other) (and_left _ _ is))) (cases_Bool (child_of ws at n))) (cases_eq n c)
      where
        here : n ≡ c → (child_of ws at n && before next n) ≡ (eqb n c || (child_of ws at n && before c n))
        here e = and_from _ _ (ap (child_of ws at) e ∙ linked.child some) (ap (before next) e ∙ before-later next c later) ∙ sym (or_left _ _ (eq-eqb n c e))

        child : (n ≡ c → ⊥) → child_of ws at n ≡ true → (child_of ws at n && before next n) ≡ (eqb n c || (child_of ws at n && before c n))
        child other is =
            let ends : c < n → next ≡ 0 → ⊥ = λ above z. both_ways _ ((next_sibling-none ss c s (string ss c) rooted (linked.child some)).0 z n above h) is in
            let between : c < n → n < next → ⊥ = λ above lower. both_ways _ ((next_sibling-some ss c s (string ss c) (linked.child some) (omega arith)).before n above lower) is in
            ap (λ x. x && before next n) is ∙ before-other next c n some other later ends between ∙ sym (ap (λ x. eqb n c || (x && before c n)) is ∙ ap (λ x. x || before c n) (ne_eqb n c other))

    fits : c < length u
    fits = omega (arith, linked.within, linked.finishes.size, ready.ready.tree.size)

    module _ (v : List Node) (written : v ≡ set u c (finished ws c)) where
      next-is : (node_at v c).next ≡ next
      next-is = ap (λ (x : Node). x.next) (ap (λ l. node_at l c) written ∙ get_or-set_same u c (finished ws c) no_node fits)

      -- with the next finished, its sibling is next
      pub linked_more : LinkedUpto ws at (node_at v c).next t v
      linked_more = subst (λ x. LinkedUpto ws at x t v) (sym next-is) (record {
        within = ⊎_elim (λ z. subst (λ x. x < length ss) (sym z) rooted.some) (λ more. (next_sibling-some ss c s (string ss c) (linked.child some) (omega arith)).within) (cases_eq next 0);
        child = λ more. (next_sibling-some ss c s (string ss c) (linked.child some) more).passes;
        finishes = subst (Finishes ws _ t) (sym written) (finishes_more ws _ (λ n. eqb n c) _ t u (set u c (finished ws c)) one_more linked.finishes (finishes_one ws c u fits));
      })

      -- the children come to an end
      pub linked_falls : left (length v) (node_at v c).next < left (length u) c
      linked_falls = rw (next-is, written, length-set) (left-falls (length u) next c some fits later)
