-- Strings that end with others, and the last byte of a string.
use Rattle.std.proofs.Common.{◌≡◌, ℕ, suc, ◌-◌, ◌<◌, ◌≤◌, ◌⊎◌, List, [], ◌∷◌, ◌++◌, length, take, sym, refl, ap, ◌∙◌, inl, inr, arith, take-suc}
use lib.Seq.{take-length}
use Rattle.std.proofs.lemmas.List.{append_assoc, append-nil, length-append, length_push, nil_from_length, take_at, get_or_push, same_from_push}
use Rattle.finder.specs.Meaning.{EndsWith}
use Rattle.nodes.specs.Nodes.{parent, last_byte}

-- a string ends with itself
pub ends-itself : (s : List ℕ) → EndsWith s s
ends-itself s = ([], refl)

-- and with the empty one
pub ends-nothing : (s : List ℕ) → EndsWith s []
ends-nothing s = (s, sym (append-nil s))

-- a suffix of a suffix is a suffix
pub ends-trans : (u s t : List ℕ) → EndsWith u s → EndsWith s t → EndsWith u t
ends-trans u s t (front, is) (more, at) = (front ++ more, is ∙ ap (λ v. front ++ v) at ∙ sym (append_assoc front more t))

-- a suffix is no longer
pub ends-short : (u s : List ℕ) → EndsWith u s → length s ≤ length u
ends-short u s (front, is) = omega (arith, ap length is, length-append front s)

-- a suffix that is as long is the string itself
pub ends-whole : (u s : List ℕ) → EndsWith u s → length u ≤ length s → u ≡ s
ends-whole u s (front, is) long = is ∙ ap (λ v. v ++ s) (nil_from_length front (omega (arith, ap length is, length-append front s)))

-- two strings that end with each other are one
pub ends-both : (u s : List ℕ) → EndsWith u s → EndsWith s u → u ≡ s
ends-both u s there back = ends-whole u s there (ends-short s u back)

-- a suffix is the whole string, or a suffix of what follows the first byte
pub ends-cons : (b : ℕ) (u s : List ℕ) → EndsWith (b ∷ u) s → (b ∷ u ≡ s) ⊎ EndsWith u s
ends-cons b u s ([], is) = inl is
ends-cons b u s (x ∷ front, is) = inr (front, cc)

-- what follows the first byte is a suffix
pub ends-rest : (b : ℕ) (u s : List ℕ) → EndsWith u s → EndsWith (b ∷ u) s
ends-rest b u s (front, is) = (b ∷ front, ap (λ v. b ∷ v) is)

-- the same byte more on both
pub ends-push : (u s : List ℕ) (b : ℕ) → EndsWith u s → EndsWith (u ++ (b ∷ [])) (s ++ (b ∷ []))
ends-push u s b (front, is) = (front, ap (λ v. v ++ (b ∷ [])) is ∙ append_assoc front s (b ∷ []))

-- the last byte off both
pub ends-unpush : (u s : List ℕ) (b c : ℕ) → EndsWith (u ++ (b ∷ [])) (s ++ (c ∷ [])) → EndsWith u s × (b ≡ c)
ends-unpush u s b c (front, is) = let (before, last) = same_from_push u (front ++ s) b c (is ∙ sym (append_assoc front s (c ∷ []))) in ((front, before), last)

-- a string with a byte behind, without its last byte
pub parent-push : (s : List ℕ) (b : ℕ) → parent (s ++ (b ∷ [])) ≡ s
parent-push s b = take_at s (b ∷ []) _ (omega (arith, length_push s b))

-- its last byte
pub last_push : (s : List ℕ) (b : ℕ) → last_byte (s ++ (b ∷ [])) ≡ b
last_push s b = get_or_push s b 0 _ (omega (arith, length_push s b))

-- a string of some bytes is all but its last byte, and that byte
pub parent-last : (s : List ℕ) → 0 < length s → s ≡ parent s ++ (last_byte s ∷ [])
parent-last s some =
    let last : suc (length s - 1) ≡ length s = omega arith in
    sym (ap (λ n. take n s) last ∙ take-length s) ∙ take-suc s (length s - 1) 0 (omega arith)

-- a string is empty or has a last byte
pub cases_last : (s : List ℕ) → (s ≡ []) ⊎ (s ≡ parent s ++ (last_byte s ∷ []))
cases_last [] = inl refl
cases_last (b ∷ s) = inr (parent-last (b ∷ s) (omega arith))
