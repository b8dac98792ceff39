-- Children by the words that make them.
use Rattle.std.proofs.Common.{◌≡◌, ℕ, suc, ◌-◌, ◌<◌, ◌≤◌, Bool, true, false, List, [], ◌∷◌, length, get_or, take, drop, sym, refl, ap, ◌∙◌, subst, ⊎_elim, arith, take-suc}
use Rattle.std.specs.List.{ContainsAt as Has}
use Rattle.std.proofs.lemmas.List.{length_push, length-take-le, take-take}
use Rattle.std.proofs.lemmas.Bool.{both_ways, cases_lt, cases_order, false_from_ne_true}
use Rattle.finder.specs.Words.{word}
use Rattle.nodes.specs.Nodes.{strings, string, last_byte, parent, is_child, lowest, first_child, next_sibling}
use Rattle.nodes.specs.Tables.{Next}
use Rattle.nodes.proofs.Children.{child-push, child-root, decides_child, lowest-is, lowest-none}
use Rattle.nodes.proofs.Entering.{shared-most}
use Rattle.nodes.proofs.Strings.{front-push, rooted_strings, same-itself}
use Rattle.link.specs.Shape.{BeginsWith, Branches, Makes, shared_by, base_of, made_by, branch_of}
use Rattle.link.proofs.Beginning.{begins_front, front-is, has_earlier}
use Rattle.link.proofs.Making.{base_all, base_rises, makes_below, makes_node, makes_string, maker}

-- the first string that passes is the lowest
pub lowest-only : (ss : List (List ℕ)) (f : List ℕ → Bool) (n r : ℕ) → Next ss f n r → lowest n (drop n ss) f ≡ r
lowest-only ss f n r next = ⊎_elim (λ none. absurd (both_ways _ (none.1 r next.from next.within) next.passes)) same (lowest-is ss f n)
  where
    same : Next ss f n (lowest n (drop n ss) f) → lowest n (drop n ss) f ≡ r
    same other =
        ⊎_elim (λ is. is)
        (⊎_elim (λ below. absurd (both_ways _ (next.before _ other.from below) other.passes)) (λ above. absurd (both_ways _ (other.before r next.from above) next.passes)))
        (cases_order (lowest n (drop n ss) f) r)

-- strings that do not pass may be left out
pub lowest-skip : (ss : List (List ℕ)) (f : List ℕ → Bool) (n m : ℕ) → n ≤ m → f (string ss 0) ≡ false → ((k : ℕ) → n ≤ k → k < m → f (string ss k) ≡ false) → lowest n (drop n ss) f ≡ lowest m (drop m ss) f
lowest-skip ss f n m low root none = ⊎_elim (λ later. (lowest-none ss f n root).1 (λ k from below. split k from (later.1 k) below) ∙ sym later.0) first (lowest-is ss f m)
  where
    split : (k : ℕ) → n ≤ k → (m ≤ k → k < length ss → f (string ss k) ≡ false) → k < length ss → f (string ss k) ≡ false
    split k from later below = ⊎_elim (none k from) (λ past. later past below) (cases_lt k m)

    first : Next ss f m (lowest m (drop m ss) f) → lowest n (drop n ss) f ≡ lowest m (drop m ss) f
    first next =
        let from = next.from in
        lowest-only ss f n _ (record { from = omega arith; within = next.within; passes = next.passes; before = λ k from below. ⊎_elim (none k from) (λ past. next.before k past below) (cases_lt k m) })

-- one byte more makes a child
pub child-front : (w : List ℕ) (d : ℕ) → d < length w → is_child (take d w) (take (suc d) w) ≡ true
child-front w d inside = ap (is_child (take d w)) (take-suc w d 0 inside) ∙ child-push (take d w) (take d w) (get_or w d 0) ∙ same-itself (take d w)

-- a child of a string of d bytes is made by a word that begins with it, of one byte more
pub child-makes : (ws : List (List ℕ)) (s : List ℕ) (d n : ℕ) → length s ≡ d → n < length (strings ws) → is_child s (string (strings ws) n) ≡ true → (j : ℕ) × Makes ws j (suc d) × (n ≡ made_by ws j (suc d)) × (take d (word ws j) ≡ s)
child-makes ws s d n size below child =
    let ss = strings ws in
    let last = last_byte (string ss n) in
    let some : 0 < n = ⊎_elim (λ some. some) (λ root. absurd (both_ways _ (ap (λ m. is_child s (string ss m)) (omega arith) ∙ child-root ss s (rooted_strings ws)) child)) (cases_lt 0 n) in
    let (j, e, made, number) = maker ws n some below in
    let is = sym ((decides_child s (string ss n)).0 child) ∙ ap (string ss) number ∙ makes_string ws j e made in
    let more : e ≡ suc d = omega (arith, ap length is, length_push s last, length-take-le e (word ws j) made.within) in
    (j, subst (Makes ws j) more made, number ∙ ap (made_by ws j) more, ap (λ m. take m (word ws j)) (sym size) ∙ sym (front-push s last e (word ws j) is).1)

module _ (ws : List (List ℕ)) (k d : ℕ) (inside : k < length ws) (within : d ≤ length (word ws k)) where
  size : length (take d (word ws k)) ≡ d
  size = length-take-le d (word ws k) within

  -- a word that branches off makes a child of the first d bytes of word k, its first node
  branch_makes : (j : ℕ) → j < length ws → Branches ws k d j → Makes ws j (suc d) × (base_of ws j ≡ made_by ws j (suc d))
  branch_makes j word-j branch = let is = branch.shares in (record { inside = word-j; above = omega arith; within = branch.longer }, omega arith)

  branch_child : (j : ℕ) → j < length ws → Branches ws k d j → is_child (take d (word ws k)) (string (strings ws) (base_of ws j)) ≡ true
  branch_child j word-j branch =
      let s = take d (word ws k) in
      let (made, number) = branch_makes j word-j branch in
      let at : take d (word ws j) ≡ s = ap (λ n. take n (word ws j)) (sym size) ∙ (front-is (word ws j) s branch.begins).1 in
      ap (λ n. is_child s (string (strings ws) n)) number ∙ ap (is_child s) (makes_string ws j (suc d) made) ∙ ap (λ t. is_child t (take (suc d) (word ws j))) (sym at) ∙ child-front (word ws j) d branch.longer

  -- and each child that a later word makes is such a node
  child-branch : (n : ℕ) → base_of ws (suc k) ≤ n → n < length (strings ws) → is_child (take d (word ws k)) (string (strings ws) n) ≡ true → (j : ℕ) × (k < j) × (j < length ws) × Branches ws k d j × (n ≡ base_of ws j)
  child-branch n from below child =
      let s = take d (word ws k) in
      let (j, made, number, is) = child-makes ws s d n size below child in
      let later : k < j = ⊎_elim (λ later. later) (λ past. absurd (omega (arith, makes_below ws j (suc d) made, base_rises ws (suc j) (suc k) (omega arith) inside))) (cases_lt k j) in
      let older = strings (take j ws) in
      let has = subst (Has older) (sym is) (has_earlier ws s j k later inside (begins_front (word ws k) d)) in
      let shares : shared_by ws j ≡ d = ⊎_elim (λ less. absurd (shared-most older (word ws j) d less (omega (arith, made.within)) has)) (λ more. omega (arith, made.above)) (cases_lt (shared_by ws j) d) in
      (j, later, made.inside, record { begins = subst (BeginsWith (word ws j)) is (begins_front (word ws j) d); shares = shares; longer = made.within }, omega arith)

  -- the lowest word that branches off has the lowest-numbered of these children
  pub branch_found : (i : ℕ) → k < i → i < length ws → Branches ws k d i → ((j : ℕ) → k < j → j < i → Branches ws k d j → ⊥) → branch_of ws k d ≡ base_of ws i
  branch_found i later word-i branch none =
      lowest-only (strings ws) (is_child (take d (word ws k))) _ _ (record { from = base_rises ws (suc k) i later (omega arith); within = node; passes = branch_child i word-i branch; before = before })
    where
      node : base_of ws i < length (strings ws)
      node = let (made, number) = branch_makes i word-i branch in omega (arith, makes_node ws i (suc d) made)

      before : (n : ℕ) → base_of ws (suc k) ≤ n → n < base_of ws i → is_child (take d (word ws k)) (string (strings ws) n) ≡ false
      before n from below = false_from_ne_true _ (λ child.
          let (j, behind, word-j, other, is) = child-branch n from (omega (arith, node)) child in
          none j behind (⊎_elim (λ less. less) (λ past. absurd (omega (arith, base_rises ws i j past (omega arith)))) (cases_lt j i)) other)

  -- and where none does there is none
  pub branch_none : ((j : ℕ) → k < j → j < length ws → Branches ws k d j → ⊥) → branch_of ws k d ≡ 0
  branch_none none =
      (lowest-none (strings ws) (is_child (take d (word ws k))) (base_of ws (suc k)) (child-root (strings ws) (take d (word ws k)) (rooted_strings ws))).1
      (λ n from below. false_from_ne_true _ (λ child. let (j, behind, word-j, other, is) = child-branch n from below child in none j behind word-j other))

-- the parent's next child is the next sibling
next-lowest : (ss : List (List ℕ)) (n : ℕ) (s : List ℕ) → 0 < length s → next_sibling ss n s ≡ lowest (suc n) (drop (suc n) ss) (is_child (parent s))
next-lowest ss n [] some = absurd (omega arith)
next-lowest ss n (b ∷ s) some = refl

-- the node that word k makes of its first d bytes
module _ (ws : List (List ℕ)) (k d : ℕ) (made : Makes ws k d) where
  whole : length (take d (word ws k)) ≡ d
  whole = length-take-le d (word ws k) made.within

  root_fails : (s : List ℕ) → is_child s (string (strings ws) 0) ≡ false
  root_fails s = child-root (strings ws) s (rooted_strings ws)

  -- nodes that this word and those before it make are nodes of all words
  node_upto : (n : ℕ) → n < base_of ws (suc k) → n < length (strings ws)
  node_upto n below = omega (arith, base_rises ws (suc k) (length ws) made.inside (omega arith), base_all ws)

  -- its children below the first node of the next word are made by this word
  own_child : (n : ℕ) → n < base_of ws (suc k) → is_child (take d (word ws k)) (string (strings ws) n) ≡ true → (suc d ≤ length (word ws k)) × (n ≡ made_by ws k (suc d))
  own_child n below child =
      let s = take d (word ws k) in
      let (j, child-made, number, at) = child-makes ws s d n whole (node_upto n below) child in
      let begins = subst (BeginsWith (word ws j)) at (begins_front (word ws j) d) in
      ⊎_elim (λ is. (subst (λ i. suc d ≤ length (word ws i)) is child-made.within, number ∙ ap (λ i. made_by ws i (suc d)) is))
      (⊎_elim (λ less. absurd (shared-most (strings (take k ws)) (word ws k) d made.above made.within (has_earlier ws s k j less child-made.inside begins)))
      (λ more. absurd (omega (arith, base_rises ws (suc k) j more (omega (arith, child-made.inside))))))
      (cases_order j k)

  -- where the word goes on, the node that it makes next is the first child
  pub first_longer : d < length (word ws k) → first_child (strings ws) (take d (word ws k)) ≡ made_by ws k (suc d)
  first_longer more =
      let s = take d (word ws k) in
      let next : Makes ws k (suc d) = record { inside = made.inside; above = omega (arith, made.above); within = more } in
      let below = makes_below ws k (suc d) next in
      lowest-only (strings ws) (is_child s) 0 (made_by ws k (suc d)) (record {
        from = omega arith;
        within = makes_node ws k (suc d) next;
        passes = ap (is_child s) (makes_string ws k (suc d) next) ∙ child-front (word ws k) d more;
        before = λ n from less. false_from_ne_true _ (λ child. let (inside, is) = own_child n (omega arith) child in omega arith);
      })

  -- where it ends, the first child is that of a word that branches off
  pub first_whole : length (word ws k) ≤ d → first_child (strings ws) (take d (word ws k)) ≡ branch_of ws k d
  first_whole ends =
      lowest-skip (strings ws) (is_child (take d (word ws k))) 0 (base_of ws (suc k)) (omega arith) (root_fails (take d (word ws k)))
      (λ n from below. false_from_ne_true _ (λ child. let (inside, is) = own_child n below child in omega arith))

  -- the next sibling is the first node of a word that branches off one byte before
  pub next-is : next_sibling (strings ws) (made_by ws k d) (take d (word ws k)) ≡ branch_of ws k (d - 1)
  next-is =
      let one : parent (take d (word ws k)) ≡ take (d - 1) (word ws k) = ap (λ n. take (n - 1) (take d (word ws k))) whole ∙ take-take (d - 1) d (word ws k) (omega arith) in
      next-lowest (strings ws) m (take d (word ws k)) (omega (arith, whole, made.above))
      ∙ ap (λ s. lowest (suc m) (drop (suc m) (strings ws)) (is_child s)) one
      ∙ lowest-skip (strings ws) (is_child (take (d - 1) (word ws k))) (suc m) (base_of ws (suc k)) (makes_below ws k d made) (root_fails (take (d - 1) (word ws k))) none
    where
      m : ℕ
      m = made_by ws k d

      none : (n : ℕ) → suc (made_by ws k d) ≤ n → n < base_of ws (suc k) → is_child (take (d - 1) (word ws k)) (string (strings ws) n) ≡ false
      none n from below = false_from_ne_true _ (λ child.
          let (j, long, number, at) = child-makes ws (take (d - 1) (word ws k)) (d - 1) n (length-take-le (d - 1) (word ws k) (omega (arith, made.within))) (node_upto n below) child in
          let size : suc (d - 1) ≡ d = omega (arith, made.above) in
          let child-made = subst (Makes ws j) size long in
          let is = number ∙ ap (made_by ws j) size in
          ⊎_elim (λ same. omega (arith, ap (λ i. made_by ws i d) same))
          (⊎_elim (λ less. omega (arith, makes_below ws j d child-made, base_rises ws (suc j) k less (omega (arith, made.inside))))
          (λ more. omega (arith, base_rises ws (suc k) j more (omega (arith, child-made.inside)))))
          (cases_order j k))
