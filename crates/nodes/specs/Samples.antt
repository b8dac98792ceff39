-- The nodes of two lists of words, computed.
use Rattle.std.specs.Prelude.{◌≡◌, ℕ, List, [], ◌∷◌, map, codes, refl}
use Rattle.nodes.specs.Nodes.{strings, first_child, next_sibling, back_link, suffix_mask, own_mask, shared}
use Rattle.nodes.specs.Laws.{position}

abbrev three : List (List ℕ)
three = codes "ab" ∷ codes "bab" ∷ codes "b" ∷ []

abbrev four : List (List ℕ)
four = codes "he" ∷ codes "she" ∷ codes "his" ∷ codes "hers" ∷ []

nodes_of_three : strings three ≡ [] ∷ codes "a" ∷ codes "ab" ∷ codes "b" ∷ codes "ba" ∷ codes "bab" ∷ []
nodes_of_three = refl

links_of_three : map (back_link (strings three)) (strings three) ≡ 0 ∷ 0 ∷ 3 ∷ 0 ∷ 1 ∷ 2 ∷ []
links_of_three = refl

outputs_of_three : map (suffix_mask three) (strings three) ≡ 0 ∷ 0 ∷ 5 ∷ 4 ∷ 0 ∷ 7 ∷ []
outputs_of_three = refl

own_of_three : map (own_mask three) (strings three) ≡ 0 ∷ 0 ∷ 1 ∷ 4 ∷ 0 ∷ 2 ∷ []
own_of_three = refl

children_of_three : map (first_child (strings three)) (strings three) ≡ 1 ∷ 2 ∷ 0 ∷ 4 ∷ 5 ∷ 0 ∷ []
children_of_three = refl

sibling_of_a : next_sibling (strings three) 1 (codes "a") ≡ 3
sibling_of_a = refl

position-in_three : position three (codes "aba") ≡ codes "ba"
position-in_three = refl

nodes_of_four : strings four ≡ [] ∷ codes "h" ∷ codes "he" ∷ codes "s" ∷ codes "sh" ∷ codes "she" ∷ codes "hi" ∷ codes "his" ∷ codes "her" ∷ codes "hers" ∷ []
nodes_of_four = refl

links_of_four : map (back_link (strings four)) (strings four) ≡ 0 ∷ 0 ∷ 0 ∷ 0 ∷ 1 ∷ 2 ∷ 0 ∷ 3 ∷ 0 ∷ 3 ∷ []
links_of_four = refl

shared-in_four : shared (strings four) (codes "hero") ≡ 3
shared-in_four = refl
