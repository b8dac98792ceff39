-- Filling a table, number by number.
use Rattle.std.proofs.Common.{◌≡◌, ℕ, ◌+◌, ◌<◌, List, [], ◌∷◌, ◌++◌, map, length, get_or, drop, set, sym, ap, ◌∙◌, arith}
use Rattle.std.specs.List.{range_with_len}
use Rattle.std.proofs.lemmas.List.FromFn.{length-map-range_with_len, map-range_with_len_more}
use Rattle.std.proofs.lemmas.List.{append_assoc, drop_more, set_at}

-- the first c numbers are written, the others are as they were
abbrev pub filled : (ℕ → ℕ) → ℕ → List ℕ → List ℕ
filled f c before = map f (range_with_len 0 c) ++ drop c before

-- one more number
pub filled_more : (f : ℕ → ℕ) (c : ℕ) (before : List ℕ) → c < length before → set (filled f c before) c (f c) ≡ filled f (c + 1) before
filled_more f c before within =
    let written = map f (range_with_len 0 c) in
    let rest = drop_more before c 0 within in
    ap (λ xs. set (written ++ xs) c (f c)) rest ∙ set_at written (get_or before c 0) (drop (c + 1) before) (f c) c (length-map-range_with_len f 0 c)
    ∙ sym (append_assoc written (f c ∷ []) (drop (c + 1) before)) ∙ ap (λ xs. xs ++ drop (c + 1) before) (sym (map-range_with_len_more f 0 c c (omega arith)))
