-- Where bytes lead from the root, and the row of these, filled by a walk over the root's children.
use Rattle.std.proofs.Common.{◌≡◌, ℕ, ◌<◌, List, [], ◌∷◌, ◌++◌, length, get_or, set, replicate, Some, None, Option, sym, refl, ap, ◌∙◌, subst, ⊎_elim, arith}
use Rattle.std.specs.Option.{unwrap_or}
use Rattle.std.proofs.lemmas.List.{get_or_past, get_or-replicate, get_or-set_other, get_or-set_same, length-replicate}
use Rattle.std.proofs.lemmas.Bool.{cases_eq, cases_lt}
use Rattle.nodes.specs.Nodes.{string, strings}
use Rattle.nodes.specs.Tables as T
use Rattle.nodes.proofs.Children.{decides_child}
use Rattle.link.specs.Entering.{Behind}
use Rattle.link.specs.Table.{Child, Leads, RootRow, Tree, node_at}
use Rattle.link.specs.declared.node.Node.{Node}
use Rattle.link.proofs.Walk.{siblings-more, siblings-none, tree_chained}
use Rattle.link.specs.Children.{children, siblings}
use Rattle.link.proofs.Following.{Passed, child-leads, left, left-falls, passed_all, root_stays, tree_first, tree_next}
use Rattle.link.proofs.Siblings.{behind_is, behind_more, behind_none, behind_within}

-- a byte leads from the root to its child, or stays
pub root_leads : (ss : List (List ℕ)) (b : ℕ) (o : Option ℕ) → T.Rooted ss → Child ss 0 b o → Leads ss 0 b (unwrap_or o 0)
root_leads ss b None rooted none = root_stays ss b rooted none
root_leads ss b (Some c) rooted child = child-leads ss 0 b c child

-- each number of a row of zeros is 0, and what is read past its end
zeros : (n b : ℕ) → ◌≡◌ {A = ℕ} (get_or (replicate n 0) b 0) 0
zeros n b = ⊎_elim (λ lower. get_or-replicate n b 0 0 lower) (λ upper. get_or_past (replicate n 0) b 0 (omega (arith, length-replicate {A = ℕ} n 0))) (cases_lt b n)

-- c is a child of the root, or 0 behind the last; the row has the children before it, and no others
pub record RowUpto (ss : List (List ℕ)) (row : List ℕ) (c : ℕ) : Type 0 where
  pub walk : (m : ℕ) × Behind ss 0 m c
  pub none : (b : ℕ) → get_or row b 0 ≡ 0 → Passed ss 0 b c
  pub some : (b : ℕ) → 0 < get_or row b 0 → Child ss 0 b (Some (get_or row b 0))

module _ (t : List Node) (ss : List (List ℕ)) (tree : Tree t ss) where
  pub root_within : 0 < length t
  root_within = subst (λ n. 0 < n) (sym tree.size) tree.table.rooted.some

  -- before the first child the row has none
  pub row_first : (n : ℕ) → RowUpto ss (replicate n 0) (node_at t 0).first
  row_first n = record { walk = (0, behind_none t ss tree 0 root_within); none = λ b _. tree_first t ss tree 0 b root_within; some = λ b more. absurd (omega (arith, zeros n b)) }

  module _ (row : List ℕ) (c : ℕ) (upto : RowUpto ss row c) where
    pub row_within : c < length t
    row_within = subst (λ n. c < n) (sym tree.size) (behind_within ss 0 _ c upto.walk.1)

    -- the walk goes on, and ends
    next-walk : 0 < c → Behind ss 0 c (node_at t c).next
    next-walk some = behind_more t ss tree 0 _ c some upto.walk.1

    pub row_falls : 0 < c → left (length t) (node_at t c).next < left (length t) c
    row_falls some = left-falls (length t) (node_at t c).next c some row_within (λ more. (behind_is ss 0 c _ (next-walk some) more).later)

    -- the child itself goes into the row at its byte
    pub row_more : 0 < c → (node_at t c).byte < length row → RowUpto ss (set row (node_at t c).byte c) (node_at t c).next
    row_more some short = record { walk = (c, next-walk some); none = none; some = filled }
      where
        byte : ℕ
        byte = (node_at t c).byte

        here : Child ss 0 byte (Some c)
        here =
            let child = behind_is ss 0 _ c upto.walk.1 some in
            (child.within, (decides_child _ _).0 child.child ∙ ap (λ x. string ss 0 ++ (x ∷ [])) (sym (tree.byte c child.within)))

        none : (b : ℕ) → get_or (set row byte c) b 0 ≡ 0 → Passed ss 0 b (node_at t c).next
        none b z = ⊎_elim
            (λ same. absurd (omega (arith, ap (λ k. get_or (set row byte c) k 0) same, get_or-set_same row byte c 0 short)))
            (λ other. tree_next t ss tree 0 b c some (λ e. other (sym e)) (upto.none b (sym (get_or-set_other row byte b c 0 other) ∙ z)))
            (cases_eq b byte)

        filled : (b : ℕ) → 0 < get_or (set row byte c) b 0 → Child ss 0 b (Some (get_or (set row byte c) b 0))
        filled b more = ⊎_elim
            (λ same. let is : get_or (set row byte c) b 0 ≡ c = ap (λ k. get_or (set row byte c) k 0) same ∙ get_or-set_same row byte c 0 short in subst (λ x. Child ss 0 b (Some x)) (sym is) (subst (λ k. Child ss 0 k (Some c)) (sym same) here))
            (λ other. let is = get_or-set_other row byte b c 0 other in subst (λ x. Child ss 0 b (Some x)) (sym is) (upto.some b (subst (λ x. 0 < x) is more)))
            (cases_eq b byte)

  -- behind the last child the row has all
  pub row_all : (row : List ℕ) → RowUpto ss row 0 → RootRow ss row
  row_all row upto b = ⊎_elim
      (λ z. subst (Leads ss 0 b) (sym z) (root_stays ss b tree.table.rooted (passed_all ss 0 b (upto.none b z))))
      (λ more. child-leads ss 0 b _ (upto.some b (omega arith)))
      (cases_eq (get_or row b 0) 0)

-- without words no byte leads away from the root
pub row_empty : (ws : List (List ℕ)) (n : ℕ) → ws ≡ [] → RootRow (strings ws) (replicate n 0)
row_empty ws n none b = subst (λ us. Leads (strings us) 0 b (get_or (replicate n 0) b 0)) (sym none) (subst (Leads (strings []) 0 b) (sym (zeros n b)) (omega arith, refl))

-- the row has the children before the siblings ps
pub record RowBefore (t : List Node) (ss : List (List ℕ)) (row : List ℕ) (ps : List (ℕ × ℕ)) : Type 0 where
  pub child : ℕ
  pub here : ps ≡ siblings t (length t) child
  pub upto : RowUpto ss row child

module _ (t : List Node) (ss : List (List ℕ)) (tree : Tree t ss) where
  pub before_first : (n : ℕ) (ps : List (ℕ × ℕ)) → ps ≡ children t 0 → RowBefore t ss (replicate n 0) ps
  before_first n ps is = record { child = (node_at t 0).first; here = is; upto = row_first t ss tree n }

  -- the first of these goes into the row
  pub before_more : (row : List ℕ) (p : ℕ × ℕ) (ps : List (ℕ × ℕ)) → length row ≡ 256 → p.1 < 256 → RowBefore t ss row (p ∷ ps) → RowBefore t ss (set row p.1 p.0) ps
  before_more row p ps size short before =
      let c = before.child in
      let within = row_within t ss tree row c before.upto in
      let some : 0 < c = ⊎_elim (λ z. absurd (omega (arith, ap length (before.here ∙ siblings-none t (length t) c z)))) (λ more. omega arith) (cases_eq c 0) in
      let both = before.here ∙ siblings-more t (tree_chained t ss tree) c some within in
      let first : p ≡ (c, (node_at t c).byte) = cc in
      let rest : ps ≡ siblings t (length t) (node_at t c).next = cc in
      let byte : p.1 ≡ (node_at t c).byte = ap (λ (q : ℕ × ℕ). q.1) first in
      record { child = (node_at t c).next; here = rest; upto = subst (λ (q : ℕ × ℕ). RowUpto ss (set row q.1 q.0) (node_at t c).next) (sym first) (row_more t ss tree row c before.upto some (omega arith)) }

  -- with none left it has all
  pub before_all : (row : List ℕ) (ps : List (ℕ × ℕ)) → ps ≡ [] → RowBefore t ss row ps → RootRow ss row
  before_all row ps none before =
      let c = before.child in
      let within = row_within t ss tree row c before.upto in
      ⊎_elim (λ z. row_all t ss tree row (subst (RowUpto ss row) z before.upto))
      (λ more. absurd (omega (arith, ap length (sym before.here ∙ none), ap length (siblings-more t (tree_chained t ss tree) c (omega arith) within))))
      (cases_eq c 0)
