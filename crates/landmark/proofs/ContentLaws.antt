-- What it says of the bytes that an item stands there.
use Rattle.std.proofs.Common.{◌≡◌, ℕ, ◌+◌, ◌-◌, ◌*◌, ◌/◌, ◌%◌, ◌<◌, ◌≤◌, Bool, true, false, cond, eqb, leb, List, [], ◌∷◌, ◌++◌, length, get_or, None, Ok, Err, Result, sym, refl, ap, ◌∙◌, subst, arith}
use Rattle.std.proofs.lemmas.Bool.{eqb-true, leb-true, and_parts, cond-true, cond_both}
use Rattle.std.proofs.lemmas.List.{nil_from_length}
use Rattle.landmark.specs.Records.{Item, start, run, star, any, unfit, kind_of, body_of, as_two, bare, start_of, run_of, gap_of, item_of, is_whole, item_at, two_bytes, body_at}
use Rattle.landmark.specs.declared.element.Role.TheVariants.{Entry, Bar}
use Rattle.landmark.specs.declared.refusal.Refusal.{Refusal}

-- each number is a byte
abbrev pub Bytes : List ℕ → Type 0
Bytes l = (k : ℕ) → get_or l k 0 < 256

-- a refusal is no item
no_item : {P : Type 0} (why : Refusal) (i : Item) → Err why ≡ Ok i → P
no_item why i e = cc

-- a test that is passed on the way to an item
passed : (b : Bool) (x : Result Item Refusal) (why : Refusal) (i : Item) → cond b x (Err why) ≡ Ok i → (b ≡ true) × (x ≡ Ok i)
passed true x why i h = (refl, h)
passed false x why i h = no_item why i h

same_item : (i j : Item) → ◌≡◌ {A = Result Item Refusal} (Ok i) (Ok j) → i ≡ j
same_item i j e = cc

-- the kind and the body are those of a fit item
pub record Content (kind : ℕ) (body : List ℕ) (i : Item) : Type 0 where
  pub kind_is : kind ≡ kind_of i
  pub fit : unfit i ≡ None
  pub body_is : Bytes body → body ≡ body_of i

-- two bytes are those of the number that they make
pub two_split : (x y : ℕ) → x < 256 → x ∷ y ∷ [] ≡ as_two (x + 256 * y)
two_split x y h =
    let low : x ≡ (x + 256 * y) % 256 = omega arith in
    let high : y ≡ (x + 256 * y) / 256 = omega arith in
    cc

two_bytes-of : (body : List ℕ) → length body ≡ 2 → Bytes body → body ≡ as_two (two_bytes body 0)
two_bytes-of [] e h = absurd (omega arith)
two_bytes-of (x ∷ []) e h = absurd (omega arith)
two_bytes-of (x ∷ y ∷ []) e h = two_split x y (h 0)
two_bytes-of (x ∷ y ∷ z ∷ body) e h = absurd (omega arith)

four-bytes_of : (body : List ℕ) → length body ≡ 4 → Bytes body → body ≡ as_two (two_bytes body 0) ++ as_two (two_bytes body 2)
four-bytes_of [] e h = absurd (omega arith)
four-bytes_of (x ∷ []) e h = absurd (omega arith)
four-bytes_of (x ∷ y ∷ []) e h = absurd (omega arith)
four-bytes_of (x ∷ y ∷ z ∷ []) e h = absurd (omega arith)
four-bytes_of (x ∷ y ∷ z ∷ w ∷ []) e h = ap (λ l. x ∷ y ∷ l) (two_split z w (h 2)) ∙ ap (λ l. l ++ as_two (z + 256 * w)) (two_split x y (h 0))
four-bytes_of (x ∷ y ∷ z ∷ w ∷ v ∷ body) e h = absurd (omega arith)

start_content : (body : List ℕ) (i : Item) → start_of body ≡ Ok i → Content 1 body i
start_content body i e =
    let sized = passed (eqb (length body) 2) _ _ i e in
    let size = eqb-true _ _ sized.0 in
    cond_both (eqb (two_bytes body 0) 1) _ _ (λ r. r ≡ Ok i → Content 1 body i)
    (λ t is. subst (Content 1 body) (same_item (start Entry) i is) (record { kind_is = refl; fit = refl; body_is = λ h. two_bytes-of body size h ∙ ap as_two (eqb-true _ _ t) }))
    (λ f rest. let second = passed (eqb (two_bytes body 0) 2) _ _ i rest in
    subst (Content 1 body) (same_item (start Bar) i second.1) (record { kind_is = refl; fit = refl; body_is = λ h. two_bytes-of body size h ∙ ap as_two (eqb-true _ _ second.0) }))
    sized.1

run_content : (body : List ℕ) (i : Item) → run_of body ≡ Ok i → Content 2 body i
run_content body i e =
    let sized = passed _ _ _ i e in
    subst (Content 2 body) (same_item (run body) i sized.1) (record { kind_is = refl; fit = cond-true _ _ _ sized.0; body_is = λ h. refl })

gap_content : (body : List ℕ) (i : Item) → gap_of body ≡ Ok i → Content 3 body i
gap_content body i e =
    let sized = passed _ _ _ i e in
    let counted = passed _ _ _ i sized.1 in
    subst (Content 3 body) (same_item _ i counted.1) (record { kind_is = refl; fit = cond-true _ _ _ counted.0; body_is = four-bytes_of body (eqb-true _ _ sized.0) })

bare-content : (kind : ℕ) (j : Item) (body : List ℕ) (i : Item) → kind ≡ kind_of j → unfit j ≡ None → body_of j ≡ [] → bare j body ≡ Ok i → Content kind body i
bare-content kind j body i k u none e =
    let sized = passed _ _ _ i e in
    subst (Content kind body) (same_item j i sized.1) (record { kind_is = k; fit = u; body_is = λ h. nil_from_length body (eqb-true _ _ sized.0) ∙ sym none })

pub item-content : (kind : ℕ) (body : List ℕ) (i : Item) → item_of kind body ≡ Ok i → Content kind body i
item-content kind body i e =
    let P : Result Item Refusal → Type 0 = λ r. r ≡ Ok i → Content kind body i in
    cond_both (eqb kind 1) _ _ P (λ t is. subst (λ k. Content k body i) (sym (eqb-true kind 1 t)) (start_content body i is)) (λ _.
    cond_both (eqb kind 2) _ _ P (λ t is. subst (λ k. Content k body i) (sym (eqb-true kind 2 t)) (run_content body i is)) (λ _.
    cond_both (eqb kind 3) _ _ P (λ t is. subst (λ k. Content k body i) (sym (eqb-true kind 3 t)) (gap_content body i is)) (λ _.
    cond_both (eqb kind 4) _ _ P (λ t is. bare-content kind star body i (eqb-true kind 4 t) refl refl is) (λ _.
    cond_both (eqb kind 5) _ _ P (λ t is. bare-content kind any body i (eqb-true kind 5 t) refl refl is) (λ _ none. no_item _ i none))))) e

-- the record at a place is whole, and its kind and body are those of the item
pub record Stands (l : List ℕ) (p : ℕ) (i : Item) : Type 0 where
  pub fits : p + 2 + two_bytes l p ≤ length l
  pub sized : 2 ≤ two_bytes l p
  pub content : Content (two_bytes l (p + 2)) (body_at l p) i

pub stands : (l : List ℕ) (p : ℕ) (i : Item) → item_at l p ≡ Ok i → Stands l p i
stands l p i e =
    let size = two_bytes l p in
    let remaining = length l - p in
    let whole = passed (is_whole remaining size) _ _ i e in
    let sized = passed (leb 2 size) _ _ i whole.1 in
    let parts = and_parts (leb 2 remaining) (leb size (remaining - 2)) whole.0 in
    let two : 2 ≤ remaining = leb-true _ _ parts.0 in
    let rest : size ≤ remaining - 2 = leb-true _ _ parts.1 in
    record { fits = omega arith; sized = leb-true _ _ sized.0; content = item-content (two_bytes l (p + 2)) (body_at l p) i sized.1 }
