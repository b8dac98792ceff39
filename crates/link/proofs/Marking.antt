-- A word marked at the node where it ends.
use Rattle.std.proofs.Common.{◌≡◌, ℕ, ◌*◌, ◌%◌, ◌^◌, ◌<◌, cond, eqb, List, [], ◌∷◌, ◌++◌, length, take, set, sym, ap, ◌∙◌, subst, ⊎_elim, arith}
use lib.Bits.{bit_or}
use Rattle.std.proofs.lemmas.Nat.{one_shl}
use Rattle.std.proofs.lemmas.List.{get_or-set_other, get_or-set_same, get_or-take, length-set, length-take}
use Rattle.std.proofs.lemmas.Bool.{cases_eq, cond-false, cond-true, eq-eqb, false_from_ne_true, ne_eqb}
use Rattle.finder.specs.Words.{most_words, same}
use Rattle.finder.proofs.HalfRead.{decides_same}
use Rattle.nodes.specs.Nodes.{strings, string, own_mask}
use Rattle.nodes.proofs.Meaning.{own_mask-or, own_mask-push}
use Rattle.nodes.proofs.Strings.{same-itself, string-one}
use Rattle.link.specs.Entering.{Holds, Reaches}
use Rattle.link.specs.Table.{node_at, no_node}
use Rattle.link.specs.declared.enter.Reached.{Reached}
use Rattle.link.specs.declared.node.Node.{Node}
use Rattle.link.proofs.Changes.{with_back}

-- a node with another mask
abbrev with_mask : Node → ℕ → Node
with_mask x m = with_back x x.back m

-- only the mask of node p changes
masked : (t : List Node) (p m : ℕ) → p < length t → (n : ℕ) → node_at (set t p (with_mask (node_at t p) m)) n ≡ with_mask (node_at t n) (cond (eqb n p) m (node_at t n).mask)
masked t p m fits n = ⊎_elim
    (λ e. let test = eq-eqb n p e in let node = ap (node_at t) e in let written = get_or-set_same t p (with_mask (node_at t p) m) no_node fits in let to = cond-true (eqb n p) m (node_at t n).mask test in cc)
    (λ other. get_or-set_other t p n _ no_node other ∙ ap (with_mask (node_at t n)) (sym (cond-false _ m (node_at t n).mask (ne_eqb n p other))))
    (cases_eq n p)

module _ (us : List (List ℕ)) (w : List ℕ) (before t : List Node) (r : Reached) (reaches : Reaches us w before t r) (fits : r.node < length t) (k : ℕ) (number : length us ≡ k) (few : k < most_words) where
  abbrev ss : List (List ℕ)
  ss = strings (us ++ (w ∷ []))

  abbrev front : List Node
  front = take r.count t

  abbrev joined : ℕ
  joined = bit_or (node_at t r.node).mask ((1 * 2 ^ k) % 2 ^ 64)

  abbrev marked : List Node
  marked = set t r.node (with_mask (node_at t r.node) joined)

  in_front : (n : ℕ) → n < length ss → n < r.count
  in_front n = subst (λ m. n < m) (sym reaches.front.size)

  marked-is : (n : ℕ) → n < length ss → node_at (take r.count marked) n ≡ with_mask (node_at front n) (cond (eqb n r.node) joined (node_at front n).mask)
  marked-is n h =
      let there = get_or-take r.count t n no_node (in_front n h) in
      get_or-take r.count marked n no_node (in_front n h) ∙ masked t r.node joined fits n ∙ ap (λ x. with_mask x (cond (eqb n r.node) joined x.mask)) (sym there)

  -- the word's bit is set at its node
  joined_is : joined ≡ own_mask (us ++ (w ∷ [])) (string ss r.node)
  joined_is =
      let own = ap (λ (x : Node). x.mask) (sym (get_or-take r.count t r.node no_node reaches.within)) ∙ reaches.front.entered.mask r.node (subst (λ m. r.node < m) reaches.front.size reaches.within) in
      let bit = one_shl k 64 few in
      let here = reaches.node in
      let test = same-itself w in
      let or = own_mask-or us w (string ss r.node) in
      let set-bit = cond-true (same w (string ss r.node)) (2 ^ length us) 0 (ap (same w) here ∙ test) in
      cc

  -- and at no other
  others_are : (n : ℕ) → n < length ss → (n ≡ r.node → ⊥) → own_mask us (string ss n) ≡ own_mask (us ++ (w ∷ [])) (string ss n)
  others_are n h other =
      let within = subst (λ m. r.node < m) reaches.front.size reaches.within in
      let distinct = reaches.front.entered.tree.table.distinct in
      let apart = false_from_ne_true (same w (string ss n)) (λ is. other (string-one ss distinct n r.node h within (sym ((decides_same w (string ss n)).0 is) ∙ sym reaches.node))) in
      omega (arith, own_mask-push us w (string ss n), cond-false _ (2 ^ length us) 0 apart)

  mask_is : (n : ℕ) → n < length ss → cond (eqb n r.node) joined (node_at front n).mask ≡ own_mask (us ++ (w ∷ [])) (string ss n)
  mask_is n h = ⊎_elim
      (λ e. cond-true _ _ _ (eq-eqb n r.node e) ∙ joined_is ∙ ap (λ m. own_mask (us ++ (w ∷ [])) (string ss m)) (sym e))
      (λ other. cond-false _ _ _ (ne_eqb n r.node other) ∙ reaches.front.entered.mask n h ∙ others_are n h other)
      (cases_eq n r.node)

  -- so the word is entered
  pub holds-word : Holds (us ++ (w ∷ [])) r.count before marked
  holds-word =
      let tree = reaches.front.entered.tree in
      record {
        size = reaches.front.size;
        entered = record {
          tree = record {
            table = tree.table;
            size = simp (length-take, length-set) (omega (arith, tree.size, length-take r.count t));
            depth = λ n h. ap (λ (x : Node). x.depth) (marked-is n h) ∙ tree.depth n h;
            byte = λ n h. ap (λ (x : Node). x.byte) (marked-is n h) ∙ tree.byte n h;
            first = λ n h. ap (λ (x : Node). x.first) (marked-is n h) ∙ tree.first n h;
            next = λ n h. ap (λ (x : Node). x.next) (marked-is n h) ∙ tree.next n h;
          };
          root = ap (λ (x : Node). x.back) (marked-is 0 tree.table.rooted.some) ∙ reaches.front.entered.root;
          mask = λ n h. ap (λ (x : Node). x.mask) (marked-is n h) ∙ mask_is n h;
        };
        rest = λ n above. get_or-set_other t r.node n _ no_node (λ e. omega (arith, reaches.within)) ∙ reaches.front.rest n above;
      }
