-- Bytes put over a buffer: one after another, as one element set, and as a part written.
use Rattle.std.proofs.Common.{◌≡◌, ℕ, ◌+◌, ◌<◌, ◌≤◌, List, [], ◌∷◌, ◌++◌, length, take, drop, set, sym, refl, ap, ◌∙◌, add-zero, add-one, arith}
use borrow.Rule.Slice.PartMut.{put_mid}
use Rattle.std.proofs.lemmas.List.{append_assoc, length-append, length-take-le, length-drop, take-append-drop, take_at, drop_at, drop-drop, set_split}
use Rattle.landmark.specs.Records.{put}

-- the front that is put, as one list
put_front : (b : List ℕ) (p : ℕ) (xs : List ℕ) → put b p xs ≡ (take p b ++ xs) ++ drop (p + length xs) b
put_front b p xs = sym (append_assoc (take p b) xs (drop (p + length xs) b))

front_length : (b : List ℕ) (p : ℕ) (xs : List ℕ) → p ≤ length b → length (take p b ++ xs) ≡ p + length xs
front_length b p xs h = length-append (take p b) xs ∙ ap (λ n. n + length xs) (length-take-le p b h)

-- putting bytes leaves the length of the buffer
pub put-length : (b : List ℕ) (p : ℕ) (xs : List ℕ) → p + length xs ≤ length b → length (put b p xs) ≡ length b
put-length b p xs h =
    let start : p ≤ length b = omega arith in
    let front = front_length b p xs start in
    ap length (put_front b p xs) ∙ length-append (take p b ++ xs) (drop (p + length xs) b) ∙ simp (front, length-drop) (omega arith)

-- two pieces put one behind the other are one piece
pub put-put : (b : List ℕ) (p q : ℕ) (xs ys : List ℕ) → p ≤ length b → q ≡ p + length xs → put (put b p xs) q ys ≡ put b p (xs ++ ys)
put-put b p q xs ys h at =
    let front : length (take p b ++ xs) ≡ q = front_length b p xs h ∙ sym at in
    let whole = put_front b p xs in
    let kept : take q (put b p xs) ≡ take p b ++ xs = ap (take q) whole ∙ take_at (take p b ++ xs) (drop (p + length xs) b) q front in
    let rest : drop (q + length ys) (put b p xs) ≡ drop (p + length (xs ++ ys)) b =
    sym (drop-drop (length ys) q (put b p xs))
    ∙ ap (λ l. drop (length ys) (drop q l)) whole
    ∙ ap (drop (length ys)) (drop_at (take p b ++ xs) (drop (p + length xs) b) q front)
    ∙ drop-drop (length ys) (p + length xs) b
    ∙ ap (λ n. drop n b) (simp length-append (omega arith)) in
    simp (kept, rest, append_assoc)

-- one element set is one byte put
pub put_one : (b : List ℕ) (p x : ℕ) → p < length b → set b p x ≡ put b p (x ∷ [])
put_one b p x h = set_split b p x h ∙ ap (λ n. take p b ++ (x ∷ drop n b)) (sym (add-one p))

-- and two elements set, one behind the other, are two bytes put
pub put_two : (b : List ℕ) (p x y : ℕ) → p + 2 ≤ length b → set (set b p x) (p + 1) y ≡ put b p (x ∷ y ∷ [])
put_two b p x y h =
    let first : p < length b = omega arith in
    let start : p ≤ length b = omega arith in
    let one = put_one b p x first in
    let same : length (put b p (x ∷ [])) ≡ length b = put-length b p (x ∷ []) (omega arith) in
    ap (λ l. set l (p + 1) y) one ∙ put_one (put b p (x ∷ [])) (p + 1) y (omega arith) ∙ put-put b p (p + 1) (x ∷ []) (y ∷ []) start refl

-- a part of the buffer that was written whole
pub put-part : (b : List ℕ) (p n : ℕ) (ys : List ℕ) → n ≡ length ys → put_mid p n b ys ≡ put b p ys
put-part b p n ys e = ap (λ l. take p b ++ (ys ++ l)) (drop-drop n p b ∙ ap (λ k. drop (p + k) b) e)

-- putting no bytes leaves the buffer as it is
pub put-none : (b : List ℕ) (p : ℕ) → b ≡ put b p []
put-none b p = sym (take-append-drop p b) ∙ ap (λ n. take p b ++ drop n b) (sym (add-zero p))
