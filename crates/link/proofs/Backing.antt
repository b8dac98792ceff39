-- The longest proper suffix of a string that is a node's, suffix by suffix.
use Rattle.std.proofs.Common.{◌≡◌, ℕ, ◌+◌, ◌<◌, ◌≤◌, List, [], ◌∷◌, length, get_or, drop, sym, refl, ap, ◌∙◌, subst, arith}
use lib.Seq.{take-length}
use Rattle.std.specs.List.{ContainsAt as Has}
use Rattle.std.proofs.lemmas.List.{drop_all, drop_more}
use Rattle.finder.specs.Words.{word}
use Rattle.nodes.specs.Nodes.{strings, number, longest, back_string, back_link}
use Rattle.nodes.proofs.Back.{longest-of, longest-rest}
use Rattle.nodes.proofs.Strings.{distinct_strings, has_string, rooted_strings}
use Rattle.link.specs.Shape.{BeginsWith, NoneBefore, Makes, made_by}
use Rattle.link.proofs.Beginning.{front-is, none_earlier}
use Rattle.link.proofs.Making.{makes_node, makes_number, makes_string}

-- the longest suffix from a place on is the longest proper one
abbrev pub LeftFrom : List (List ℕ) → List ℕ → ℕ → Type 0
LeftFrom ss s from = longest ss (drop from s) ≡ back_string ss s

-- it is from the second byte on
pub left-start : (ss : List (List ℕ)) (s : List ℕ) → LeftFrom ss s 1
left-start ss [] = refl
left-start ss (b ∷ s) = refl

module _ (ws : List (List ℕ)) (s : List ℕ) (from : ℕ) (left : LeftFrom (strings ws) s from) where
  -- a suffix that no word begins with is passed over
  pub left-more : (t : List ℕ) → t ≡ drop from s → from < length s → NoneBefore ws t (length ws) → LeftFrom (strings ws) s (from + 1)
  left-more t at inside none =
      let ss = strings ws in
      let here : t ≡ get_or s from 0 ∷ drop (from + 1) s = at ∙ drop_more s from 0 inside in
      let new : Has ss t → ⊥ = λ has. none_earlier ws t (length ws) (omega (arith, ap length here)) none (subst (λ us. Has (strings us) t) (sym (take-length ws)) has) in
      sym (longest-rest ss (get_or s from 0) (drop (from + 1) s) (subst (λ u. Has ss u → ⊥) here new)) ∙ ap (longest ss) (sym here ∙ at) ∙ left

  -- one that word i is the first to begin with is the longest
  pub left-found : (t : List ℕ) → t ≡ drop from s → (i : ℕ) → Makes ws i (length t) → BeginsWith (word ws i) t → back_link (strings ws) s ≡ made_by ws i (length t)
  left-found t at i made begins =
      let ss = strings ws in
      let is = (front-is (word ws i) t begins).1 in
      let has = subst (Has ss) (makes_string ws i (length t) made ∙ is) (has_string ss (made_by ws i (length t)) (makes_node ws i (length t) made)) in
      ap (number ss) (sym left ∙ ap (longest ss) (sym at) ∙ longest-of ss t has ∙ sym is) ∙ makes_number ws i (length t) made

  -- past the end the root is left
  pub left-none : length s ≤ from → back_link (strings ws) s ≡ 0
  left-none past =
      let ss = strings ws in
      ap (number ss) (sym left ∙ ap (longest ss) (drop_all from s past) ∙ sym (rooted_strings ws).first) ∙ distinct_strings ws 0 (rooted_strings ws).some
