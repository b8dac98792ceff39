-- Nodes that are finished, and what that keeps.
use Rattle.std.proofs.Common.{◌≡◌, ℕ, ◌<◌, Bool, true, false, cond, ◌||◌, eqb, List, length, set, sym, refl, ap, ◌∙◌, subst, ⊎_elim}
use Rattle.std.proofs.lemmas.List.{get_or-set_other, get_or-set_same, length-set}
use Rattle.std.proofs.lemmas.Bool.{cases_eq, cond_both, cond-false, cond-true, eq-eqb, ne_eqb}
use Rattle.nodes.specs.Nodes.{strings, string, last_byte, first_child, next_sibling}
use Rattle.link.specs.Backing.{Finishes, Ready, finished}
use Rattle.link.specs.Table.{Tree, node_at, no_node}
use Rattle.link.specs.declared.node.Node.{Node}

-- one after the other
or_cond : {X : Type 0} (p q : Bool) (x y : X) → cond p x (cond q x y) ≡ cond (p || q) x y
or_cond true q x y = refl
or_cond false q x y = refl

module _ (ws : List (List ℕ)) where
  -- no node
  pub finishes_none : (f : ℕ → Bool) (t : List Node) → ((n : ℕ) → n < length (strings ws) → f n ≡ false) → Finishes ws f t t
  finishes_none f t none = record { size = refl; node = λ n h. sym (cond-false _ _ _ (none n h)) }

  -- one node
  pub finishes_one : (m : ℕ) (t : List Node) → m < length t → Finishes ws (λ n. eqb n m) t (set t m (finished ws m))
  finishes_one m t fits = record {
    size = length-set t m (finished ws m);
    node = λ n h. ⊎_elim
        (λ e. ap (node_at (set t m (finished ws m))) e ∙ get_or-set_same t m (finished ws m) no_node fits ∙ ap (finished ws) (sym e) ∙ sym (cond-true _ _ _ (eq-eqb n m e)))
        (λ other. get_or-set_other t m n (finished ws m) no_node other ∙ sym (cond-false _ _ _ (ne_eqb n m other)))
        (cases_eq n m);
  }

  -- one after the other
  pub finishes_more : (f g h : ℕ → Bool) (a b c : List Node) → ((n : ℕ) → n < length (strings ws) → h n ≡ (g n || f n)) → Finishes ws f a b → Finishes ws g b c → Finishes ws h a c
  finishes_more f g h a b c is first then = record {
    size = then.size ∙ first.size;
    node = λ n below. then.node n below ∙ ap (cond (g n) (finished ws n)) (first.node n below) ∙ or_cond (g n) (f n) (finished ws n) (node_at a n) ∙ ap (λ x. cond x (finished ws n) (node_at a n)) (sym (is n below));
  }

  -- the same nodes
  pub finishes_same : (f g : ℕ → Bool) (a b : List Node) → ((n : ℕ) → n < length (strings ws) → f n ≡ g n) → Finishes ws f a b → Finishes ws g a b
  finishes_same f g a b is done = record { size = done.size; node = λ n below. done.node n below ∙ ap (λ x. cond x (finished ws n) (node_at a n)) (is n below) }

  -- what holds of finished nodes and held before holds of all
  pub finishes_keeps : (P : ℕ → Node → Type 0) (f : ℕ → Bool) (a b : List Node) → Finishes ws f a b → (n : ℕ) → n < length (strings ws) → P n (finished ws n) → P n (node_at a n) → P n (node_at b n)
  finishes_keeps P f a b done n below yet before = subst (P n) (sym (done.node n below)) (cond_both (f n) (finished ws n) (node_at a n) (P n) (λ e. yet) (λ e. before))

  -- the tree stays
  pub tree_finishes : (f : ℕ → Bool) (a b : List Node) → Finishes ws f a b → Tree a (strings ws) → Tree b (strings ws)
  tree_finishes f a b done tree =
      let ss = strings ws in
      record {
        table = tree.table;
        size = done.size ∙ tree.size;
        depth = λ n h. finishes_keeps (λ n x. x.depth ≡ length (string ss n)) f a b done n h refl (tree.depth n h);
        byte = λ n h. finishes_keeps (λ n x. x.byte ≡ last_byte (string ss n)) f a b done n h refl (tree.byte n h);
        first = λ n h. finishes_keeps (λ n x. x.first ≡ first_child ss (string ss n)) f a b done n h refl (tree.first n h);
        next = λ n h. finishes_keeps (λ n x. x.next ≡ next_sibling ss n (string ss n)) f a b done n h refl (tree.next n h);
      }

  -- and what is finished
  pub ready_finishes : (f : ℕ → Bool) (a b : List Node) (at : ℕ) → Finishes ws f a b → Ready ws at a → Ready ws at b
  ready_finishes f a b at done ready = record {
    tree = tree_finishes f a b done ready.tree;
    within = ready.within;
    done = λ n h short. finishes_keeps (λ n x. x ≡ finished ws n) f a b done n h refl (ready.done n h short);
  }
