-- The walk over the children of a node, step by step.
use Rattle.std.proofs.Common.{◌≡◌, ℕ, zero, suc, ◌+◌, ◌-◌, ◌<◌, ◌≤◌, ◌==◌, Bool, find, List, [], ◌∷◌, length, Some, None, Option, sym, refl, ap, ◌∙◌, subst, ⊎_elim, arith}
use Rattle.std.specs.Option.{option_map}
use Rattle.std.specs.List.{last_or}
use Rattle.std.proofs.lemmas.Bool.{cases_eq, cond-false, cond-true, eq-eqb, ne_eqb}
use Rattle.nodes.specs.Nodes.{string, parent}
use Rattle.nodes.proofs.Children.{child-is, next_sibling-some}
use Rattle.nodes.proofs.Strings.{same-itself, string-some}
use Rattle.link.specs.Children.{Chained, child_with, last_child, siblings}
use Rattle.link.specs.Entering.{Behind}
use Rattle.link.specs.Table.{Child, Tree, node_at}
use Rattle.link.specs.declared.node.Node.{Node}
use Rattle.link.proofs.Following.{Passed, passed_all, passed_here, tree_first, tree_next}
use Rattle.link.proofs.Siblings.{behind_more, behind_none, behind_within}

module _ (t : List Node) (chained : Chained t) where
  -- as many steps as there are nodes past the first are enough
  siblings-enough : (n c : ℕ) → c < length t → (0 < c → length t ≤ n + c) → siblings t (suc n) c ≡ siblings t n c
  siblings-enough zero zero within enough = refl
  siblings-enough (suc n) zero within enough = refl
  siblings-enough zero (suc c) within enough = absurd (omega arith)
  siblings-enough (suc n) (suc c) within enough =
      let next = (node_at t (suc c)).next in
      let below : next < length t = chained.next (suc c) (omega arith) within in
      let later : 0 < next → suc c < next = chained.rises (suc c) (omega arith) within in
      ap (λ rest. (suc c, (node_at t (suc c)).byte) ∷ rest) (siblings-enough n next below (λ more. omega arith))

  -- a step of the walk
  pub siblings-more : (c : ℕ) → 0 < c → c < length t → siblings t (length t) c ≡ (c, (node_at t c).byte) ∷ siblings t (length t) (node_at t c).next
  siblings-more zero some within = absurd (omega arith)
  siblings-more (suc c) some within =
      let n = length t - 1 in
      let size : length t ≡ suc n = omega arith in
      let next = (node_at t (suc c)).next in
      let below : next < length t = chained.next (suc c) some within in
      let later : 0 < next → suc c < next = chained.rises (suc c) some within in
      ap (λ m. siblings t m (suc c)) size ∙ ap (λ rest. (suc c, (node_at t (suc c)).byte) ∷ rest) (sym (siblings-enough n next below (λ more. omega arith)) ∙ ap (λ m. siblings t m next) (sym size))

-- the walk is over at 0
pub siblings-none : (t : List Node) (n c : ℕ) → c ≡ 0 → siblings t n c ≡ []
siblings-none t zero c z = refl
siblings-none t (suc n) zero z = refl
siblings-none t (suc n) (suc c) z = absurd (omega arith)

-- a tree's links are chained
pub tree_chained : (t : List Node) (ss : List (List ℕ)) → Tree t ss → Chained t
tree_chained t ss tree = record {
  first = λ n h. subst (λ m. (node_at t n).first < m) (sym tree.size) (tree_first t ss tree n 0 h).within;
  next = λ n some h. ⊎_elim (λ z. subst (λ x. x < length t) (sym z) (omega arith)) (λ more. let sibling = next_is n some h (omega arith) in omega (arith, tree.size)) (cases_eq (node_at t n).next 0);
  rises = λ n some h more. let sibling = next_is n some h more in omega arith;
}
  where
    next_is : (n : ℕ) → 0 < n → n < length t → 0 < (node_at t n).next → (suc n ≤ (node_at t n).next) × ((node_at t n).next < length ss)
    next_is n some h more =
        let below : n < length ss = omega (arith, tree.size) in
        let w = string ss n in
        let bytes = string-some ss tree.table.rooted tree.table.distinct n some below in
        let child = child-is (parent w) w bytes ∙ same-itself (parent w) in
        let is = tree.next n below in
        let sibling = next_sibling-some ss n (parent w) w child (subst (λ x. 0 < x) is more) in
        (subst (λ x. suc n ≤ x) (sym is) sibling.from, subst (λ x. x < length ss) (sym is) sibling.within)

-- the children that the walk finds are those of the tree
module _ (t : List Node) (ss : List (List ℕ)) (tree : Tree t ss) (at : ℕ) (within : at < length t) where
  module _ (b : ℕ) where
    abbrev test : ℕ × ℕ → Bool
    test p = p.1 == b

    found_from : (n c : ℕ) → Passed ss at b c → (0 < c → length t ≤ n + c) → Child ss at b (option_map (λ p. p.0) (find test (siblings t n c)))
    found_from zero zero passed enough = passed_all ss at b passed
    found_from (suc n) zero passed enough = passed_all ss at b passed
    found_from zero (suc c) passed enough = absurd (omega (arith, passed.within, tree.size))
    found_from (suc n) (suc c) passed enough =
        let next = (node_at t (suc c)).next in
        let inside : suc c < length t = omega (arith, passed.within, tree.size) in
        let later : 0 < next → suc c < next = (tree_chained t ss tree).rises (suc c) (omega arith) inside in
        let xs = siblings t n next in
        let x : ℕ × ℕ = (suc c, (node_at t (suc c)).byte) in
        ⊎_elim
        (λ same. subst (λ o. Child ss at b (option_map (λ p. p.0) o)) (sym (cond-true (test x) (Some x) (find test xs) (eq-eqb _ _ same)))
        (passed_here ss at b (suc c) (omega arith) (sym (tree.byte (suc c) passed.within) ∙ same) passed))
        (λ other. subst (λ o. Child ss at b (option_map (λ p. p.0) o)) (sym (cond-false (test x) (Some x) (find test xs) (ne_eqb _ _ other)))
        (found_from n next (tree_next t ss tree at b (suc c) (omega arith) other passed) (λ more. omega (arith, later))))
        (cases_eq (node_at t (suc c)).byte b)

    -- the child for a byte
    pub child_answer : (r : Option ℕ) → r ≡ child_with t at b → Child ss at b r
    child_answer r is = subst (Child ss at b) (sym is) (found_from (length t) (node_at t at).first (tree_first t ss tree at b within) (λ some. omega arith))

  -- the walk has passed the child p, or none, and c comes next
  abbrev PassedLast : Option (ℕ × ℕ) → ℕ → Type 0
  PassedLast None c = Behind ss at 0 c
  PassedLast (Some p) c = (0 < p.0) × Behind ss at p.0 c

  pass-one : (o : Option (ℕ × ℕ)) (c : ℕ) → 0 < c → PassedLast o c → Behind ss at c (node_at t c).next
  pass-one None c some behind = behind_more t ss tree at 0 c some behind
  pass-one (Some p) c some (first, behind) = behind_more t ss tree at p.0 c some behind

  passed_within : (o : Option (ℕ × ℕ)) (c : ℕ) → PassedLast o c → c < length ss
  passed_within None c behind = behind_within ss at 0 c behind
  passed_within (Some p) c (first, behind) = behind_within ss at p.0 c behind

  last_from : (n c : ℕ) (o : Option (ℕ × ℕ)) → PassedLast o c → (0 < c → length t ≤ n + c) → PassedLast (last_or o (siblings t n c)) 0
  last_from zero zero o passed enough = passed
  last_from (suc n) zero o passed enough = passed
  last_from zero (suc c) o passed enough = absurd (omega (arith, passed_within o (suc c) passed, tree.size))
  last_from (suc n) (suc c) o passed enough =
      let next = (node_at t (suc c)).next in
      let inside : suc c < length t = omega (arith, passed_within o (suc c) passed, tree.size) in
      let later : 0 < next → suc c < next = (tree_chained t ss tree).rises (suc c) (omega arith) inside in
      last_from n next (Some (suc c, (node_at t (suc c)).byte)) (omega arith, pass-one o (suc c) (omega arith) passed) (λ more. omega (arith, later))

  -- behind the last child there is none
  abbrev pub IsLast : Option ℕ → Type 0
  IsLast None = Behind ss at 0 0
  IsLast (Some c) = (0 < c) × Behind ss at c 0

  last_is : (o : Option (ℕ × ℕ)) → PassedLast o 0 → IsLast (option_map (λ p. p.0) o)
  last_is None passed = passed
  last_is (Some p) passed = passed

  pub last_answer : (r : Option ℕ) → r ≡ last_child t at → IsLast r
  last_answer r is = subst IsLast (sym is) (last_is _ (last_from (length t) (node_at t at).first None (behind_none t ss tree at within) (λ some. omega arith)))
