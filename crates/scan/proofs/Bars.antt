-- The lowest bar that has an end, landmark by landmark.
use Rattle.std.proofs.Common.{◌≡◌, ℕ, zero, suc, ◌<◌, ◌≤◌, Bool, true, false, ◌&&◌, List, [], ◌∷◌, length, get_or, take, drop, Some, None, Option, MatchOption, refl, ap, ◌∙◌, arith}
use Rattle.std.proofs.lemmas.List.{drop_all}
use Rattle.std.specs.List.{slice_get}
use Rattle.landmark.specs.Records.{or_else}
use Rattle.landmark.specs.declared.element.Role.{Role}
use Rattle.landmark.specs.declared.refusal.Refusal.TheVariants.{Barred}
use Rattle.scan.specs.Rules.{line, is_bar, has_end, bar_with_end, barred_line, barred_by}

-- landmark k is a bar that has an end
abbrev pub barred : List Role → List (Option ℕ) → ℕ → Bool
barred rs es k = bar_with_end (slice_get rs k) (get_or es k None)

-- the next landmark
next-bar : (j k : ℕ) (rs : List Role) (es : List (Option ℕ)) → k < length rs → k < length es → barred_line j (drop k rs) (drop k es) ≡ or_else (line (barred rs es k) Barred j) (barred_line (suc j) (drop (suc k) rs) (drop (suc k) es))
next-bar j k [] es in_roles in_ends = absurd (omega arith)
next-bar j k (r ∷ rs) [] in_roles in_ends = absurd (omega arith)
next-bar j zero (r ∷ rs) (e ∷ es) in_roles in_ends = refl
next-bar j (suc k) (r ∷ rs) (e ∷ es) in_roles in_ends = next-bar j k rs es (omega arith) (omega arith)

-- ends past the roles count for nothing
all_ends : (k : ℕ) (rs : List Role) (es : List (Option ℕ)) → barred_line k rs (take (length rs) es) ≡ barred_line k rs es
all_ends k [] es = refl
all_ends k (r ∷ rs) [] = refl
all_ends k (r ∷ rs) (e ∷ es) = ap (or_else (line (is_bar r && has_end e) Barred k)) (all_ends (suc k) rs es)

module _ (rs : List Role) (es : List (Option ℕ)) (room : length rs ≤ length es) where
  -- the line that applies at landmark k, where that is or is not such a bar
  bar_at : (k : ℕ) (b : Bool) → k < length rs → barred rs es k ≡ b → barred_line k (drop k rs) (drop k es) ≡ or_else (line b Barred k) (barred_line (suc k) (drop (suc k) rs) (drop (suc k) es))
  bar_at k b below is = next-bar k k rs es below (omega arith) ∙ ap (λ (x : Bool). or_else (line x Barred k) (barred_line (suc k) (drop (suc k) rs) (drop (suc k) es))) is

  -- landmarks that are none are passed over
  bars_from : (k : ℕ) → k ≤ length rs → ((j : ℕ) → j < k → barred rs es j ≡ false) → barred_line 0 rs es ≡ barred_line k (drop k rs) (drop k es)
  bars_from zero few none = refl
  bars_from (suc k) few none = bars_from k (omega arith) (λ j below. none j (omega arith)) ∙ bar_at k false (omega arith) (none k (omega arith))

  -- the lowest such bar among all landmarks
  pub lowest_bar : (n : ℕ) → n ≡ length rs → (r : Option ℕ) → MatchOption r ((k : ℕ) → 0 ≤ k → k < n → barred rs es k ≡ false) (λ i. (0 ≤ i) × (i < n) × (barred rs es i ≡ true) × ((k : ℕ) → 0 ≤ k → k < i → barred rs es k ≡ false))
      → barred_line 0 rs (take (length rs) es) ≡ barred_by r
  lowest_bar n all None none =
      all_ends 0 rs es ∙ bars_from (length rs) (omega arith) (λ j below. none j (omega arith) (omega arith))
      ∙ ap (λ (xs : List Role). barred_line (length rs) xs (drop (length rs) es)) (drop_all (length rs) rs (omega arith))
  lowest_bar n all (Some k) (_, below, is, before) =
      all_ends 0 rs es ∙ bars_from k (omega arith) (λ j less. before j (omega arith) less) ∙ bar_at k true (omega arith) is
