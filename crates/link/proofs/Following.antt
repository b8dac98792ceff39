-- Children and back links in a table, as the links are followed.
use Rattle.std.proofs.Common.{◌≡◌, ℕ, suc, ◌-◌, ◌<◌, ◌≤◌, true, cond, eqb, List, [], ◌∷◌, ◌++◌, length, Some, None, sym, ap, ◌∙◌, subst, ⊎_elim, arith}
use Rattle.std.proofs.lemmas.Bool.{both_ways, cases_eq, cases_lt}
use Rattle.std.proofs.lemmas.Bool.Decides.{nat_tests}
use Rattle.std.specs.List.{ContainsAt as Has}
use Rattle.nodes.specs.Nodes.{string, last_byte, is_child, first_child, next_sibling, back_link, back_string, step}
use Rattle.nodes.specs.Tables as T
use Rattle.nodes.proofs.Children.{decides_child, first_child-none, first_child-some, next_sibling-none, next_sibling-some, no_child}
use Rattle.nodes.proofs.Back.{back_is, back_link-below, step_back, step-child, step-root, string-back_link}
use Rattle.nodes.proofs.Strings.{has_string, string-some}
use Rattle.link.specs.Table.{Tree, Backed, Child, Leads, node_at}
use Rattle.link.specs.declared.node.Node.{Node}

-- what is left of a row of siblings that ends at 0
abbrev pub left : ℕ → ℕ → ℕ
left n c = cond (eqb c 0) 0 (n - c)

-- it falls from a sibling to the next
pub left-falls : (n next c : ℕ) → 0 < c → c < n → (0 < next → c < next) → left n next < left n c
left-falls n next c some within later = ⊎_elim (λ z. grind (arith, nat_tests)) (λ more. let l = later (omega arith) in grind (arith, nat_tests)) (cases_eq next 0)

-- c is a child of node n, or 0 behind the last; no child before it has byte b
pub record Passed (ss : List (List ℕ)) (n b c : ℕ) : Type 0 where
  pub within : c < length ss
  pub child : 0 < c → is_child (string ss n) (string ss c) ≡ true
  pub before : (k : ℕ) → k < length ss → (0 < c → k < c) → is_child (string ss n) (string ss k) ≡ true → last_byte (string ss k) ≡ b → ⊥

-- the first child from number m on, where those before have another byte
passed_from : (ss : List (List ℕ)) (n b m r : ℕ) → T.Rooted ss → ((k : ℕ) → k < length ss → k < m → is_child (string ss n) (string ss k) ≡ true → last_byte (string ss k) ≡ b → ⊥) → (r ≡ 0 → T.NoneFrom ss (is_child (string ss n)) m) → (0 < r → T.Next ss (is_child (string ss n)) m r) → Passed ss n b r
passed_from ss n b m r root earlier none some = record {
  within = ⊎_elim (λ z. subst (λ x. x < length ss) (sym z) root.some) (λ more. (some (omega arith)).within) (cases_eq r 0);
  child = λ h. (some h).passes;
  before = λ k h below is e. ⊎_elim (λ lower. earlier k h lower is e)
      (λ upper. ⊎_elim (λ z. both_ways _ (none z k upper h) is) (λ more. both_ways _ ((some (omega arith)).before k upper (below (omega arith))) is) (cases_eq r 0))
      (cases_lt k m);
}

pub passed_first : (ss : List (List ℕ)) (n b : ℕ) → T.Rooted ss → Passed ss n b (first_child ss (string ss n))
passed_first ss n b root =
    passed_from ss n b 0 (first_child ss (string ss n)) root (λ k h lower is e. absurd (omega arith)) (first_child-none ss (string ss n) root).0 (first_child-some ss (string ss n))

-- the next sibling, where c has another byte
pub passed_next : (ss : List (List ℕ)) (n b c : ℕ) → T.Rooted ss → 0 < c → (last_byte (string ss c) ≡ b → ⊥) → Passed ss n b c → Passed ss n b (next_sibling ss c (string ss c))
passed_next ss n b c root some other p =
    let is_one = p.child some in
    passed_from ss n b (suc c) (next_sibling ss c (string ss c)) root
    (λ k h lower is e. ⊎_elim (λ same-one. other (subst (λ x. last_byte (string ss x) ≡ b) same-one e)) (λ less. p.before k h (λ _. omega arith) is e) (cases_eq k c))
    (next_sibling-none ss c (string ss n) (string ss c) root is_one).0 (next_sibling-some ss c (string ss n) (string ss c) is_one)

-- behind the last sibling there is no child
pub passed_all : (ss : List (List ℕ)) (n b : ℕ) → Passed ss n b 0 → Has ss (string ss n ++ (b ∷ [])) → ⊥
passed_all ss n b p = no_child ss (string ss n) b (λ k h c e. p.before k h (λ z. absurd (omega arith)) c e)

-- a child with the byte
pub passed_here : (ss : List (List ℕ)) (n b c : ℕ) → 0 < c → last_byte (string ss c) ≡ b → Passed ss n b c → Child ss n b (Some c)
passed_here ss n b c some e p = (p.within, (decides_child (string ss n) (string ss c)).0 (p.child some) ∙ ap (λ x. string ss n ++ (x ∷ [])) e)

-- the next sibling, as the table has it
module _ (t : List Node) (ss : List (List ℕ)) (tree : Tree t ss) where
  pub tree_first : (n b : ℕ) → n < length t → Passed ss n b (node_at t n).first
  tree_first n b h = subst (Passed ss n b) (sym (tree.first n (subst (λ m. n < m) tree.size h))) (passed_first ss n b tree.table.rooted)

  pub tree_next : (n b c : ℕ) → 0 < c → ((node_at t c).byte ≡ b → ⊥) → Passed ss n b c → Passed ss n b (node_at t c).next
  tree_next n b c some other p =
      subst (Passed ss n b) (sym (tree.next c p.within)) (passed_next ss n b c tree.table.rooted some (λ e. other (tree.byte c p.within ∙ e)) p)

  -- the siblings end
  pub tree_falls : (n b c : ℕ) → 0 < c → Passed ss n b c → left (length t) (node_at t c).next < left (length t) c
  tree_falls n b c some p =
      let next = (node_at t c).next in
      let within : c < length t = subst (λ m. c < m) (sym tree.size) p.within in
      let is = tree.next c p.within in
      let later : 0 < next → c < next = λ h. subst (λ x. c < x) (sym is) (next_sibling-some ss c (string ss n) (string ss c) (p.child some) (subst (λ x. 0 < x) is h)).from in
      left-falls (length t) next c some within later

-- a child is where its byte leads
pub child-leads : (ss : List (List ℕ)) (n b c : ℕ) → Child ss n b (Some c) → Leads ss n b c
child-leads ss n b c (below, is) = (below, is ∙ sym (step-child ss (string ss n) b (subst (Has ss) is (has_string ss c below))))

-- the root without a child stays
pub root_stays : (ss : List (List ℕ)) (b : ℕ) → T.Rooted ss → Child ss 0 b None → Leads ss 0 b 0
root_stays ss b rooted none =
    let no-root : Has ss (b ∷ []) → ⊥ = λ h. none (subst (λ s. Has ss (s ++ (b ∷ []))) (sym rooted.first) h) in
    (rooted.some, rooted.first ∙ sym (step-root ss b no-root) ∙ ap (λ s. step ss s b) (sym rooted.first))

-- node `at` is no deeper than node `from`, and byte b leads from both to the same
pub record OnTheWay (ss : List (List ℕ)) (from b at : ℕ) : Type 0 where
  pub shorter : length (string ss at) ≤ length (string ss from)
  pub leads : step ss (string ss at) b ≡ step ss (string ss from) b

module _ (t : List Node) (ss : List (List ℕ)) (tree : Tree t ss) (from b at : ℕ) (backed : Backed t ss (length (string ss from))) (within : at < length t) (way : OnTheWay ss from b at) where
  here : at < length ss
  here = subst (λ m. at < m) tree.size within

  -- a child that was found is where the byte leads
  pub found_child : (c : ℕ) → Child ss at b (Some c) → Leads ss from b c
  found_child c child = let (below, is) = child-leads ss at b c child in (below, is ∙ way.leads)

  -- so is where it leads from the root
  pub found_root : (top : ℕ) → at ≡ 0 → Leads ss 0 b top → Leads ss from b top
  found_root top z (below, is) = (below, is ∙ ap (λ n. step ss (string ss n) b) (sym z) ∙ way.leads)

  -- the back link goes on, and is shorter
  back_here : (node_at t at).back ≡ back_link ss (string ss at)
  back_here = backed at here way.shorter

  pub back_within : (node_at t at).back < length t
  back_within = subst (λ m. (node_at t at).back < m) (sym tree.size) (subst (λ x. x < length ss) (sym back_here) (back_link-below ss tree.table.closed.root (string ss at)))

  back_string-here : string ss (node_at t at).back ≡ back_string ss (string ss at)
  back_string-here = ap (string ss) back_here ∙ string-back_link ss tree.table.closed.root (string ss at)

  some_string : 0 < at → 0 < length (string ss at)
  some_string h = string-some ss tree.table.rooted tree.table.distinct at h here

  pub back_shorter : 0 < at → (node_at t (node_at t at).back).depth < (node_at t at).depth
  back_shorter h =
      let proper = (back_is ss tree.table.closed.root (string ss at) (some_string h)).shorter in
      let size = ap length back_string-here in
      omega (arith, tree.depth (node_at t at).back (subst (λ m. (node_at t at).back < m) tree.size back_within), tree.depth at here)

  pub back_on_the_way : 0 < at → Child ss at b None → OnTheWay ss from b (node_at t at).back
  back_on_the_way h none =
      let proper = (back_is ss tree.table.closed.root (string ss at) (some_string h)).shorter in
      let size = ap length back_string-here in
      let less = way.shorter in
      record {
        shorter = omega arith;
        leads = ap (λ s. step ss s b) back_string-here ∙ sym (step_back ss tree.table.closed (string ss at) b (some_string h) none) ∙ way.leads;
      }
