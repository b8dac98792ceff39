-- What the tests of the search tell, and that the search finds a landmark's end.
use Rattle.std.proofs.Common.{◌≡◌, ℕ, zero, suc, ◌+◌, ◌<◌, ◌≤◌, Bool, false, ◌&&◌, leb, ◌⊎◌, List, [], ◌∷◌, length, Some, None, Decides, Option, refl, subst, inl, inr, ⊎_elim, arith}
use Rattle.std.proofs.lemmas.Bool.{leb-true, le-leb, cases_eq, cond_both}
use Rattle.std.proofs.lemmas.Bool.Decides.{Decides-and, Decides-or, Decides-like, Decides-eqb, not_from_Decides}
use Rattle.occurrence.specs.Occurrence.{Gap, Pattern, last, then, Ends, AtMost, Keeps, GoesOn, Occurs, IsEnd}
use Rattle.occurrence.specs.Search.{same, ends, at_most, keeps, some_upto, goes_on, occurs, first_from}
use Rattle.occurrence.specs.Laws.{SearchFindsTheEnd}

-- a test of two numbers decides their order
decides_leb : (a b : ℕ) → Decides (leb a b) (a ≤ b)
decides_leb a b = (leb-true a b, le-leb a b)

-- three tests decide three facts
decides_three : {P Q R : Type 0} (x y z : Bool) → Decides x P → Decides y Q → Decides z R → Decides (x && y && z) (P × Q × R)
decides_three x y z p q r = Decides-like _ (λ h. (h.0.0, h.0.1, h.1)) (λ h. ((h.0, h.1), h.2)) (Decides-and _ z (Decides-and x y p q) r)

-- `same` decides whether two lists are equal
pub decides_same : (xs ys : List ℕ) → Decides (same xs ys) (xs ≡ ys)
decides_same [] [] = (λ _. refl, λ _. refl)
decides_same [] (y ∷ ys) = (λ e. cc, λ e. cc)
decides_same (x ∷ xs) [] = (λ e. cc, λ e. cc)
decides_same (x ∷ xs) (y ∷ ys) = Decides-like _ (λ h. cc (h.0, h.1)) (λ e. (cc, cc)) (Decides-and _ _ (Decides-eqb x y) (decides_same xs ys))

-- `ends` decides whether a word ends at e
pub decides_ends : (w image : List ℕ) (e : ℕ) → Decides (ends w image e) (Ends w image e)
decides_ends w image e = decides_three _ _ _ (decides_leb _ _) (decides_leb _ _) (decides_same _ _)

-- `at_most` decides whether start lies at most so far after p
decides_at_most : (greatest : Option ℕ) (p start : ℕ) → Decides (at_most greatest p start) (AtMost greatest p start)
decides_at_most None p start = (λ _. tt, λ _. refl)
decides_at_most (Some greatest) p start = decides_leb _ _

-- `keeps` decides whether a start keeps a gap
pub decides_keeps : (g : Gap) (p start : ℕ) → Decides (keeps g p start) (Keeps g p start)
decides_keeps g p start = Decides-and _ _ (decides_leb _ _) (decides_at_most g.greatest p start)

-- a test f that decides P of each number
module _ (P : ℕ → Type 0) (f : ℕ → Bool) (each : (k : ℕ) → Decides (f k) (P k)) where
  -- P of suc n, or of some number up to n, is P of some number up to suc n
  found : (n : ℕ) → P (suc n) ⊎ ((k : ℕ) × (k ≤ n) × P k) → (k : ℕ) × (k ≤ suc n) × P k
  found n (inl h) = (suc n, omega arith, h)
  found n (inr (k, l, h)) = (k, omega arith, h)

  -- and the other way round
  where_found : (n : ℕ) → (k : ℕ) × (k ≤ suc n) × P k → P (suc n) ⊎ ((k : ℕ) × (k ≤ n) × P k)
  where_found n (k, l, h) = ⊎_elim (λ e. inl (subst P e h)) (λ apart. inr (k, omega arith, h)) (cases_eq k (suc n))

  -- `some-upto` decides whether some number up to n has P
  decides_upto : (n : ℕ) → Decides (some_upto n f) ((k : ℕ) × (k ≤ n) × P k)
  decides_upto zero = Decides-like _ (λ h. (0, omega arith, h)) (λ (k, l, h). subst P (omega arith) h) (each 0)
  decides_upto (suc n) = Decides-like _ (found n) (where_found n) (Decides-or _ _ (each (suc n)) (decides_upto n))

  -- and so whether any has it, if no number past n has
  decides_some : (n : ℕ) → ((k : ℕ) → P k → k ≤ n) → Decides (some_upto n f) ((k : ℕ) × P k)
  decides_some n within = Decides-like _ (λ (k, l, h). (k, h)) (λ (k, h). (k, within k h, h)) (decides_upto n)

-- `goes_on` decides whether ends can be picked for the rest of a landmark
pub decides_goes_on : (g : Gap) (p : ℕ) (rest : Pattern) (image : List ℕ) (e : ℕ) → Decides (goes_on g p rest image e) (GoesOn g p rest image e)
decides_goes_on g p (last w) image e = Decides-and _ _ (decides_ends w image e) (decides_keeps g p _)
decides_goes_on g p (then w h rest) image e =
    Decides-like _ (λ (q, s). (q, s.0, s.1, s.2)) (λ (q, a, b, c). (q, (a, b, c)))
    (decides_some _ _ (λ q. decides_three _ _ _ (decides_ends w image q) (decides_keeps g p _) (decides_goes_on h q rest image e)) _ (λ q s. s.0.1))

-- `occurs` decides whether a landmark has an occurrence with the end e
pub decides_occurs : (p : Pattern) (image : List ℕ) (e : ℕ) → Decides (occurs p image e) (Occurs p image e)
decides_occurs (last w) image e = decides_ends w image e
decides_occurs (then w g rest) image e =
    Decides-like _ (λ (q, s). (q, s.0, s.1)) (λ (q, a, b). (q, (a, b)))
    (decides_some _ _ (λ q. Decides-and _ _ (decides_ends w image q) (decides_goes_on g q rest image e)) _ (λ q s. s.0.1))

-- the rest of a landmark ends within the image
pub goes_on-within : (g : Gap) (p : ℕ) (rest : Pattern) (image : List ℕ) (e : ℕ) → GoesOn g p rest image e → e ≤ length image
goes_on-within g p (last w) image e (ends-here, kept) = ends-here.1
goes_on-within g p (then w h rest) image e (q, ends-here, kept, goes) = goes_on-within h q rest image e goes

-- an occurrence ends within the image
pub occurs-within : (p : Pattern) (image : List ℕ) (e : ℕ) → Occurs p image e → e ≤ length image
occurs-within (last w) image e ends-here = ends-here.1
occurs-within (then w g rest) image e (q, ends-here, goes) = goes_on-within g q rest image e goes

-- the first of n numbers from e on that passes is the end, if each end is one of them
pub first_is_end : (p : Pattern) (image : List ℕ) (n e : ℕ) → ((d : ℕ) → Occurs p image d → (e ≤ d) × (d < e + n)) → IsEnd p image (first_from n e (occurs p image))
first_is_end p image zero e among = λ d h. let l = among d h in omega arith
first_is_end p image (suc n) e among =
    cond_both (occurs p image e) (Some e) (first_from n (suc e) (occurs p image)) (IsEnd p image)
    (λ passes. record { occurs = (decides_occurs p image e).0 passes; least = λ d h. (among d h).0 })
    (λ fails. first_is_end p image n (suc e) (later fails))
  where
    later : occurs p image e ≡ false → (d : ℕ) → Occurs p image d → (suc e ≤ d) × (d < suc e + n)
    later fails d h =
        let l = among d h in
        let apart : e ≡ d → ⊥ = λ here. not_from_Decides (occurs p image e) (decides_occurs p image e) fails (rw here h) in
        (omega arith, omega arith)

-- trying every pick finds the end
pub search_finds_the_end : SearchFindsTheEnd
search_finds_the_end p image = first_is_end p image (suc (length image)) 0 (λ d h. let l = occurs-within p image d h in (omega arith, omega arith))
