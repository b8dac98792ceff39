-- The bytes of an image from a place on up to a cut.
use Rattle.std.proofs.Common.{◌≡◌, ℕ, ◌+◌, ◌-◌, min, max, List, ◌++◌, length, take, drop, sym, ap, ◌∙◌, arith, length-drop, length-take, take-add}
use Rattle.entry.specs.Blocks.{BlockTo}

pub cut_block : (image : List ℕ) (place cut first behind : ℕ) → first ≡ min place (length image) → behind ≡ max first (min cut (length image)) → BlockTo image place cut (take (behind - first) (drop first image))
cut_block image place cut first behind is-first is-behind =
    let size : length (take (behind - first) (drop first image)) ≡ min (behind - first) (length image - first) = length-take (behind - first) (drop first image) ∙ ap (min (behind - first)) (length-drop first image) in
    record {
      size = omega arith;
      joins = λ within.
          let same : place ≡ first = omega arith in
          let all : behind - first ≡ length (take (behind - first) (drop first image)) = omega arith in
          ap (λ (p : ℕ). take p image ++ take (behind - first) (drop first image)) same ∙ sym (take-add first (behind - first) image)
          ∙ ap (λ (n : ℕ). take (first + n) image) all ∙ ap (λ (p : ℕ). take (p + length (take (behind - first) (drop first image))) image) (sym same);
    }
