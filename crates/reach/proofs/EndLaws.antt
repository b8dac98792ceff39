-- A landmark's end, as the image gets longer.
use Rattle.std.proofs.Common.{◌≡◌, ℕ, suc, ◌+◌, List, [], ◌∷◌, ◌++◌, length, Some, None, subst, ⊎_elim, arith}
use Rattle.std.proofs.lemmas.List.{length-append}
use Rattle.std.proofs.lemmas.Bool.{cases_lt}
use Rattle.occurrence.specs.Occurrence.{Pattern, Occurs, IsEnd}
use Rattle.occurrence.proofs.SearchLaws.{occurs-within}
use Rattle.reach.proofs.Reaching.{occurs-longer, occurs-shorter}

-- an end that is found stays
pub end_kept : (p : Pattern) (image more : List ℕ) (e : ℕ) → IsEnd p image (Some e) → IsEnd p (image ++ more) (Some e)
end_kept p image more e end = record {
  occurs = occurs-longer p image more e end.occurs;
  least = λ d o. ⊎_elim (λ before. end.least d (occurs-shorter p image more d (omega arith) o)) (λ past. let within = occurs-within p image e end.occurs in omega arith) (cases_lt d (suc (length image)));
}

-- where there was none, one byte more brings an end only at that byte
one_more : (p : Pattern) (image : List ℕ) (b : ℕ) → IsEnd p image None → (d : ℕ) → Occurs p (image ++ (b ∷ [])) d → d ≡ length image + 1
one_more p image b none d o =
    let within = occurs-within p (image ++ (b ∷ [])) d o in
    ⊎_elim (λ before. absurd (none d (occurs-shorter p image (b ∷ []) d (omega arith) o))) (λ past. omega (arith, length-append image (b ∷ []))) (cases_lt d (suc (length image)))

pub end_found : (p : Pattern) (image : List ℕ) (b : ℕ) → IsEnd p image None → Occurs p (image ++ (b ∷ [])) (length image + 1) → IsEnd p (image ++ (b ∷ [])) (Some (length image + 1))
end_found p image b none o = record { occurs = o; least = λ d there. let at = one_more p image b none d there in omega arith }

pub end_none : (p : Pattern) (image : List ℕ) (b : ℕ) → IsEnd p image None → (Occurs p (image ++ (b ∷ [])) (length image + 1) → ⊥) → IsEnd p (image ++ (b ∷ [])) None
end_none p image b none other = λ d o. other (subst (Occurs p (image ++ (b ∷ []))) (one_more p image b none d o) o)
