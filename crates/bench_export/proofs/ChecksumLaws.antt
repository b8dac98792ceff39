-- The checksum of one more byte.
use Rattle.std.proofs.Common.{◌≡◌, ℕ, suc, ◌+◌, List, take, sym, ap, ◌∙◌, arith}
use Rattle.finder.specs.Words.{half_read, mask}
use Rattle.bench_export.specs.Checksums.{checksum, joined}

checksum-suc : (ws : List (List ℕ)) (image : List ℕ) (n : ℕ) → checksum ws image (n + 1) ≡ joined (checksum ws image n) (n + 1) (mask ws (half_read ws (take (n + 1) image)))
checksum-suc ws image n =
    let on : n + 1 ≡ suc n = omega arith in
    ap (checksum ws image) on ∙ ap (λ k. joined (checksum ws image n) k (mask ws (half_read ws (take k image)))) (sym on)

-- joining what is answered at one more byte to the checksum of the bytes before it
pub checksum-more : (ws : List (List ℕ)) (image : List ℕ) (n sum r more : ℕ) → sum ≡ checksum ws image n → r ≡ mask ws (half_read ws (take (n + 1) image))
    → more ≡ joined sum (n + 1) r → more ≡ checksum ws image (n + 1)
checksum-more ws image n sum r more s t m =
    m ∙ ap (λ x. joined x (n + 1) r) s ∙ ap (joined (checksum ws image n) (n + 1)) t ∙ sym (checksum-suc ws image n)
