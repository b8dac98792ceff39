-- Laws of single records.
use Rattle.std.proofs.Common.{◌≡◌, ℕ, ◌+◌, ◌-◌, ◌*◌, ◌/◌, ◌%◌, ◌≤◌, List, ◌++◌, length, get_or, take, drop, None, Ok, Result, sym, refl, ap, ◌∙◌, add-zero, add_assoc, arith}
use native.Mathlib.Nat.{mod-add-div, sub-zero}
use Rattle.std.proofs.lemmas.List.{length-append, length-drop, length-take-le, get_or-drop, take_at, drop_at, drop-drop}
use Rattle.std.proofs.lemmas.Bool.Decides.{nat_tests}
use Rattle.landmark.specs.declared.element.Role.TheVariants.{Entry, Bar}
use Rattle.landmark.specs.Records.{Item, start, run, gap, star, any, unfit, kind_of, body_of, encoding, put, after, record_item, item_at, item_of, body_at, two_bytes}
use Rattle.landmark.specs.declared.refusal.Refusal.{Refusal}

-- a whole record is read by its kind and its body
pub whole_item : (remaining size kind : ℕ) (body : List ℕ) → 2 + size ≤ remaining → 2 ≤ size → record_item remaining size kind body ≡ item_of kind body
whole_item remaining size kind body fits least = grind (arith, nat_tests)

-- the same, with the numbers and the part of the list as a reader has them
pub item-read : (l : List ℕ) (p size kind : ℕ) (x : Result Item Refusal) → size ≡ two_bytes l p → kind ≡ two_bytes l (p + 2) → p + 2 + size ≤ length l → 2 ≤ size → item_of kind (take (p + 2 + size - (p + 4)) (drop (p + 4) l)) ≡ x → item_at l p ≡ x
item-read l p size kind x s k fits least is =
    let shape : p + 2 + size - (p + 4) ≡ two_bytes l p - 2 = omega arith in
    let fits' : 2 + two_bytes l p ≤ length l - p = omega arith in
    let least' : 2 ≤ two_bytes l p = omega arith in
    whole_item (length l - p) (two_bytes l p) (two_bytes l (p + 2)) (body_at l p) fits' least' ∙ sym (ap (λ n. item_of n (body_at l p)) k) ∙ sym (ap (λ n. item_of kind (take n (drop (p + 4) l))) shape) ∙ is

-- what stands at a place is told by the bytes from there on
two_from : (l : List ℕ) (p q : ℕ) → two_bytes l (p + q) ≡ two_bytes (drop p l) q
two_from l p q =
    sym (ap (λ x. x + 256 * get_or (drop p l) (q + 1) 0) (get_or-drop p l q 0)
    ∙ ap (λ x. get_or l (p + q) 0 + 256 * x) (get_or-drop p l (q + 1) 0 ∙ ap (λ n. get_or l n 0) (sym (add_assoc p q 1))))

pub size-from : (l : List ℕ) (p : ℕ) → two_bytes l p ≡ two_bytes (drop p l) 0
size-from l p = ap (two_bytes l) (sym (add-zero p)) ∙ two_from l p 0

pub item_from : (l : List ℕ) (p : ℕ) → item_at l p ≡ item_at (drop p l) 0
item_from l p =
    let size = size-from l p in
    let body : body_at l p ≡ body_at (drop p l) 0 = ap (λ n. take (n - 2) (drop (p + 4) l)) size ∙ ap (take (two_bytes (drop p l) 0 - 2)) (sym (drop-drop 4 p l)) in
    ap (λ n. record_item n (two_bytes l p) (two_bytes l (p + 2)) (body_at l p)) (sym (sub-zero (length (drop p l)) ∙ length-drop p l))
    ∙ ap (λ n. record_item (length (drop p l) - 0) n (two_bytes l (p + 2)) (body_at l p)) size
    ∙ ap (λ n. record_item (length (drop p l) - 0) (two_bytes (drop p l) 0) n (body_at l p)) (two_from l p 2)
    ∙ ap (record_item (length (drop p l) - 0) (two_bytes (drop p l) 0) (two_bytes (drop p l) 2)) body

pub two_again : (n : ℕ) → n % 256 + 256 * (n / 256) ≡ n
two_again n = mod-add-div n 256

-- the bytes that an item's record begins with, read again
content : (i : Item) → unfit i ≡ None → item_of (kind_of i % 256 + 256 * (kind_of i / 256)) (body_of i) ≡ Ok i
content (start Entry) u = refl
content (start Bar) u = refl
content (run bytes) u = grind (arith, nat_tests)
content (gap least greatest) u =
    let a = two_again least in
    let b = two_again greatest in
    grind (arith, nat_tests)
content star u = refl
content any u = refl

pub encoded_item : (i : Item) (rest : List ℕ) → unfit i ≡ None → item_at (encoding i ++ rest) 0 ≡ Ok i
encoded_item i rest u =
    let l = encoding i ++ rest in
    let size : two_bytes l 0 ≡ 2 + length (body_of i) = two_again (2 + length (body_of i)) in
    let body : body_at l 0 ≡ body_of i = take_at (body_of i) rest (two_bytes l 0 - 2) (omega arith) in
    let fits : 2 + two_bytes l 0 ≤ length l - 0 = omega (arith, length-append (body_of i) rest) in
    let least : 2 ≤ two_bytes l 0 = omega arith in
    whole_item (length l - 0) (two_bytes l 0) (two_bytes l 2) (body_at l 0) fits least ∙ ap (item_of (two_bytes l 2)) body ∙ content i u

-- an item's record put into a buffer is read back there, and so is the place after it
pub put_reads : (b : List ℕ) (p : ℕ) (i : Item) → p ≤ length b → unfit i ≡ None → (item_at (put b p (encoding i)) p ≡ Ok i) × (after (put b p (encoding i)) p ≡ p + length (encoding i))
put_reads b p i h u =
    let a = put b p (encoding i) in
    let rest = drop (p + length (encoding i)) b in
    let there : drop p a ≡ encoding i ++ rest = drop_at (take p b) (encoding i ++ rest) p (length-take-le p b h) in
    let size : two_bytes a p ≡ 2 + length (body_of i) = size-from a p ∙ ap (λ l. two_bytes l 0) there ∙ two_again (2 + length (body_of i)) in
    (item_from a p ∙ ap (λ l. item_at l 0) there ∙ encoded_item i rest u, omega arith)
