-- The words of a shape.
use Rattle.std.specs.Prelude.{ℕ, List}
use Rattle.words.specs.Index.{indexed}
use Rattle.link.specs.declared.shape.Shape.{Shape}

-- the words that a shape is of
abbrev pub its_words : Shape → List (List ℕ)
its_words s = indexed s.words.now
