-- A finder's words and a list's, word by word.
use Rattle.std.proofs.Common.{◌≡◌, ℕ, suc, ◌+◌, ◌<◌, ◌≤◌, Bool, true, false, cond, List, [], ◌∷◌, length, drop, Some, None, sym, refl, ap, ◌∙◌, ⊎_elim, arith}
use Rattle.std.proofs.lemmas.List.{drop_all, drop_more}
use Rattle.std.proofs.lemmas.Bool.{cases_Bool, cases_lt}
use Rattle.finder.specs.Words.{word, same}
use Rattle.finder.proofs.HalfRead.{decides_same}
use Rattle.scan.specs.Rules.{first_other}
use Rattle.scan.proofs.Lines.{some_none}

-- the same words have no first that differs
pub no_other : (k : ℕ) (vs ws : List (List ℕ)) → first_other k vs ws ≡ None → vs ≡ ws
no_other k [] [] none = refl
no_other k [] (w ∷ ws) none = some_none none
no_other k (v ∷ vs) [] none = some_none none
no_other k (v ∷ vs) (w ∷ ws) none =
    ⊎_elim
    (λ is. let rest : first_other (suc k) vs ws ≡ None = sym (ap (λ (b : Bool). cond b (first_other (suc k) vs ws) (Some k)) is) ∙ none in
    ap (λ x. x ∷ vs) ((decides_same v w).0 is) ∙ ap (λ xs. w ∷ xs) (no_other (suc k) vs ws rest))
    (λ is. some_none (sym (ap (λ (b : Bool). cond b (first_other (suc k) vs ws) (Some k)) is) ∙ none))
    (cases_Bool (same v w))

module _ (vs : List (List ℕ)) (k : ℕ) where
  -- the list has no word left
  pub other_left : k < length vs → first_other k (drop k vs) [] ≡ Some k
  other_left below = ap (λ xs. first_other k xs []) (drop_more vs k [] below)

  pub none_left : length vs ≤ k → first_other k (drop k vs) [] ≡ None
  none_left past = ap (λ xs. first_other k xs []) (drop_all k vs past)

  module _ (w : List ℕ) (ws : List (List ℕ)) where
    -- the finder has the list's next word, or it differs there
    pub same_word : (k < length vs) × (word vs k ≡ w) → first_other k (drop k vs) (w ∷ ws) ≡ first_other (k + 1) (drop (k + 1) vs) ws
    same_word (below, is) =
        let next : suc k ≡ k + 1 = omega arith in
        ap (λ xs. first_other k xs (w ∷ ws)) (drop_more vs k [] below)
        ∙ ap (λ (b : Bool). cond b (first_other (suc k) (drop (k + 1) vs) ws) (Some k)) ((decides_same (word vs k) w).1 is)
        ∙ ap (λ n. first_other n (drop (k + 1) vs) ws) next

    pub other_word : ((k < length vs) × (word vs k ≡ w) → ⊥) → first_other k (drop k vs) (w ∷ ws) ≡ Some k
    other_word differs =
        ⊎_elim
        (λ below. ap (λ xs. first_other k xs (w ∷ ws)) (drop_more vs k [] below)
        ∙ ap (λ (b : Bool). cond b (first_other (suc k) (drop (k + 1) vs) ws) (Some k)) (unlike (same (word vs k) w) (λ is. differs (below, (decides_same (word vs k) w).0 is))))
        (λ past. ap (λ xs. first_other k xs (w ∷ ws)) (drop_all k vs past)) (cases_lt k (length vs))
      where
        unlike : (b : Bool) → (b ≡ true → ⊥) → b ≡ false
        unlike true other = absurd (other refl)
        unlike false other = refl
