-- A register of zeros is at rest.
use Rattle.std.proofs.Common.{◌≡◌, ℕ, zero, suc, ◌+◌, List, [], ◌∷◌, length, refl, ◌∙◌}
use Rattle.std.proofs.lemmas.Bool.{cond-false}
use Rattle.finder.specs.Words.{passing, at_rest}
use Rattle.shift.specs.Register.{is_half, halves_from}
use Rattle.shift.proofs.Bits.{bit-zero}

-- no length above 0 is half-read
none_half : (start n h : ℕ) → passing n (suc h) (is_half 0 start) ≡ []
none_half start zero h = refl
none_half start (suc n) h = cond-false _ _ _ (bit-zero (start + h)) ∙ none_half start n (suc h)

-- so only 0 is, of every word
pub halves_at_rest : (start : ℕ) (ws : List (List ℕ)) → halves_from start ws 0 ≡ at_rest ws
halves_at_rest start [] = refl
halves_at_rest start (w ∷ ws) = let first = none_half start (length w) 0 in let rest = halves_at_rest (start + length w) ws in cc
