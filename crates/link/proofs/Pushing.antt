-- One child more, behind the other children of a node: which links change.
use Rattle.std.proofs.Common.{◌≡◌, ℕ, ◌<◌, true, false, List, [], ◌∷◌, ◌++◌, length, sym, ap, ◌∙◌, ⊎_elim, arith}
use Rattle.std.proofs.lemmas.Bool.{both_ways, cases_eq, cases_order, cond-false, cond-true, false_from_ne_true}
use Rattle.finder.specs.Words.{same}
use Rattle.finder.proofs.HalfRead.{decides_same}
use Rattle.nodes.specs.Nodes.{string, parent, is_child, first_child, next_sibling}
use Rattle.nodes.specs.Tables as T
use Rattle.nodes.proofs.Children.{child-is, first_child-kept, first_child-none, first_child-push, next_sibling-kept, next_sibling-none, next_sibling-push}
use Rattle.nodes.proofs.Strings.{same-itself, string-one, string-some}
use Rattle.link.specs.Entering.{Behind}

-- node `at` gets one child more, with byte b, behind child `last`
module _ (ss : List (List ℕ)) (table : T.Table ss) (at b last : ℕ) (within : at < length ss) (behind : Behind ss at last 0) where
  abbrev s : List ℕ
  s = string ss at

  abbrev more : List (List ℕ)
  more = ss ++ ((string ss at ++ (b ∷ [])) ∷ [])

  -- the new child is the first where there was none
  pub first_new : last ≡ 0 → first_child more s ≡ length ss
  first_new z = first_child-push ss s b s table.rooted (sym (behind.first z)) ∙ cond-true _ _ _ (same-itself s)

  -- every other first child stays
  pub first_other : (n : ℕ) → n < length ss → (last ≡ 0 → n ≡ at → ⊥) → first_child more (string ss n) ≡ first_child ss (string ss n)
  first_other n below other = ⊎_elim none (λ some. first_child-kept ss (s ++ (b ∷ [])) (string ss n) (omega arith)) (cases_eq (first_child ss (string ss n)) 0)
    where
      childless : first_child ss (string ss n) ≡ 0 → n ≡ at → last ≡ 0
      childless z e = ⊎_elim (λ y. y) (λ some. absurd (both_ways _ ((first_child-none ss s table.rooted).0 (ap (λ m. first_child ss (string ss m)) (sym e) ∙ z) last (omega arith) behind.within) (behind.child (omega arith)))) (cases_eq last 0)

      apart : first_child ss (string ss n) ≡ 0 → same s (string ss n) ≡ false
      apart z = false_from_ne_true _ (λ is. let e = string-one ss table.distinct n at below within (sym ((decides_same s (string ss n)).0 is)) in other (childless z e) e)

      none : first_child ss (string ss n) ≡ 0 → first_child more (string ss n) ≡ first_child ss (string ss n)
      none z = first_child-push ss s b (string ss n) table.rooted z ∙ cond-false _ _ _ (apart z) ∙ sym z

  -- a child behind which there is none is the last
  the_last : (n : ℕ) → n < length ss → is_child s (string ss n) ≡ true → next_sibling ss n (string ss n) ≡ 0 → (0 < last) × (n ≡ last)
  the_last n below is none =
      let ends = (next_sibling-none ss n s (string ss n) table.rooted is).0 none in
      ⊎_elim (λ z. absurd (both_ways _ ((first_child-none ss s table.rooted).0 (sym (behind.first z)) n (omega arith) below) is))
      (λ nonzero.
      let some : 0 < last = omega arith in
      let stops = (next_sibling-none ss last s (string ss last) table.rooted (behind.child some)).0 (sym (behind.next some)) in
      (some, ⊎_elim (λ e. e) (⊎_elim (λ lower. absurd (both_ways _ (ends last lower behind.within) (behind.child some))) (λ upper. absurd (both_ways _ (stops n upper below) is))) (cases_order n last)))
      (cases_eq last 0)

  -- the new child is the next behind the last
  pub next-new : 0 < last → next_sibling more last (string ss last) ≡ length ss
  next-new some =
      let some_string = string-some ss table.rooted table.distinct last some behind.within in
      let parent_is = (decides_same (parent (string ss last)) s).0 (sym (child-is s (string ss last) some_string) ∙ behind.child some) in
      next_sibling-push ss last s b (string ss last) table.rooted behind.within some_string (sym (behind.next some)) ∙ cond-true _ _ _ ((decides_same s (parent (string ss last))).1 (sym parent_is))

  -- every other next sibling stays
  pub next-other : (n : ℕ) → n < length ss → (0 < last → n ≡ last → ⊥) → next_sibling more n (string ss n) ≡ next_sibling ss n (string ss n)
  next-other n below other = ⊎_elim none (λ some. next_sibling-kept ss n (s ++ (b ∷ [])) (string ss n) below (omega arith)) (cases_eq (next_sibling ss n (string ss n)) 0)
    where
      apart : next_sibling ss n (string ss n) ≡ 0 → 0 < length (string ss n) → same s (parent (string ss n)) ≡ false
      apart z some = false_from_ne_true _ (λ is.
          let child = child-is s (string ss n) some ∙ (decides_same (parent (string ss n)) s).1 (sym ((decides_same s (parent (string ss n))).0 is)) in
          let (above, e) = the_last n below child z in
          other above e)

      none : next_sibling ss n (string ss n) ≡ 0 → next_sibling more n (string ss n) ≡ next_sibling ss n (string ss n)
      none z = ⊎_elim
          (λ root. let empty = ap (string ss) root ∙ table.rooted.first in ap (next_sibling more n) empty ∙ sym (ap (next_sibling ss n) empty))
          (λ above.
          let some = string-some ss table.rooted table.distinct n (omega arith) below in
          next_sibling-push ss n s b (string ss n) table.rooted below some z ∙ cond-false _ _ _ (apart z some) ∙ sym z)
          (cases_eq n 0)
