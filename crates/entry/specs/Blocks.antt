-- An image in blocks.
use Rattle.std.specs.Prelude.{◌≡◌, ℕ, ◌+◌, ◌-◌, ◌≤◌, min, List, ◌++◌, length, take}

-- the bytes from a place on up to a cut: none where the cut lies before the place, and no more than there are
pub record BlockTo (image : List ℕ) (place cut : ℕ) (block : List ℕ) : Type 0 where
  pub size : length block ≡ min cut (length image) - place
  -- blocks join to the image: with the bytes before the place, they are its bytes so far
  pub joins : place ≤ length image → take place image ++ block ≡ take (place + length block) image
