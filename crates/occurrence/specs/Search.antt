-- A landmark's end by trying every pick: it computes, so samples and refusals are stated by it.
use Rattle.std.specs.Prelude.{ℕ, zero, suc, ◌+◌, ◌-◌, Bool, true, false, cond, ◌&&◌, ◌||◌, List, [], ◌∷◌, length, take, drop, Some, None, Option, ◌==◌, nat_le}
use Rattle.occurrence.specs.Occurrence.{Gap, Pattern, last, then}

-- the same bytes
abbrev pub same : List ℕ → List ℕ → Bool
same [] [] = true
same [] (y ∷ ys) = false
same (x ∷ xs) [] = false
same (x ∷ xs) (y ∷ ys) = x == y && same xs ys

abbrev pub ends : List ℕ → List ℕ → ℕ → Bool
ends w image e = nat_le (length w) e && nat_le e (length image) && same (take (length w) (drop (e - length w) image)) w

abbrev pub at_most : Option ℕ → ℕ → ℕ → Bool
at_most None p start = true
at_most (Some greatest) p start = nat_le start (p + greatest)

abbrev pub keeps : Gap → ℕ → ℕ → Bool
keeps g p start = nat_le (p + g.least) start && at_most g.greatest p start

-- the test passes at some number up to n
abbrev pub some_upto : ℕ → (ℕ → Bool) → Bool
some_upto zero f = f 0
some_upto (suc n) f = f (suc n) || some_upto n f

abbrev pub goes_on : Gap → ℕ → Pattern → List ℕ → ℕ → Bool
goes_on g p (last w) image e = ends w image e && keeps g p (e - length w)
goes_on g p (then w h rest) image e = some_upto (length image) (λ q. ends w image q && keeps g p (q - length w) && goes_on h q rest image e)

abbrev pub occurs : Pattern → List ℕ → ℕ → Bool
occurs (last w) image e = ends w image e
occurs (then w g rest) image e = some_upto (length image) (λ p. ends w image p && goes_on g p rest image e)

-- the smallest of the n numbers from e on at which the test passes
abbrev pub first_from : ℕ → ℕ → (ℕ → Bool) → Option ℕ
first_from zero e f = None
first_from (suc n) e f = cond (f e) (Some e) (first_from n (suc e) f)

-- no occurrence ends past the image
abbrev pub end_of : Pattern → List ℕ → Option ℕ
end_of p image = first_from (suc (length image)) 0 (occurs p image)
