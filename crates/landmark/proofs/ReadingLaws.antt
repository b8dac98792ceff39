-- Reading a list record by record.
use Rattle.std.proofs.Common.{◌≡◌, ℕ, zero, suc, ◌-◌, ◌<◌, ◌≤◌, leb, List, [], ◌∷◌, length, Ok, Err, Result, sym, refl, ap, ◌∙◌, subst, ⊎_elim, arith}
use Rattle.std.proofs.lemmas.Bool.{cases_lt, cond-true, cond-false, le-leb, lt-leb}
use Rattle.landmark.specs.Records.{Item, Reads, item_at, after}
use Rattle.landmark.specs.Lists.{Parts, fault, part_of, parts}
use Rattle.landmark.specs.Readings.{Placed, reading, readings, readings_from}
use Rattle.landmark.specs.declared.element.Read.{Read}
use Rattle.landmark.specs.declared.refusal.Refusal.{Refusal}
use Rattle.landmark.specs.declared.refusal.Fault.{Fault}
use Rattle.landmark.proofs.ContentLaws.{stands}
use Rattle.landmark.proofs.ListLaws.{parts-at_end, parts-at_record, parts-at_fault}

-- what comes from a place on: a record and what follows it, a fault alone, or nothing at the end
readings-at_record : (l : List ℕ) (p : ℕ) (i : Item) → item_at l p ≡ Ok i → readings_from l p ≡ Ok (record { place = p; item = i; next = after l p }) ∷ readings_from l (after l p)
readings-at_record l p i e =
    let fits = (stands l p i e).fits in
    ap (readings l) (parts-at_record l p i (omega arith) e)

readings-at_fault : (l : List ℕ) (p : ℕ) (why : Refusal) → p < length l → item_at l p ≡ Err why → readings_from l p ≡ Err (fault why p) ∷ []
readings-at_fault l p why h e = ap (readings l) (parts-at_fault l p why h e)

pub readings-at_end : (l : List ℕ) (p : ℕ) → length l ≤ p → readings_from l p ≡ []
readings-at_end l p h = ap (readings l) (parts-at_end l p h)

-- the place where reading goes on
abbrev GoesOn : List ℕ → Result Read Fault → ℕ → Type 0
GoesOn l (Ok r) q = q ≡ r.next
GoesOn l (Err f) q = q ≡ length l

-- one reading, and those behind it
pub readings-one : (l : List ℕ) (p q : ℕ) (r : Result Read Fault) → p < length l → Reads l p r → GoesOn l r q → readings_from l p ≡ reading r ∷ readings_from l q
readings-one l p q (Ok r) h (is, next, place) on = readings-at_record l p _ is ∙ cc
readings-one l p q (Err f) h (is, detail) on =
    readings-at_fault l p _ h is ∙ ap (λ d. Err (fault f.refusal d) ∷ []) (sym detail) ∙ ap (λ rest. Err f ∷ rest) (sym (readings-at_end l q (omega arith)))

-- and the other way round: what a reading that comes first says
abbrev Behind : List ℕ → Result Read Fault → List (Result Placed Fault) → Type 0
Behind l (Ok r) rest = rest ≡ readings_from l r.next
Behind l (Err f) rest = rest ≡ []

abbrev pub FirstReading : List ℕ → ℕ → Result Read Fault → List (Result Placed Fault) → Type 0
FirstReading l p r rest = (p < length l) × Reads l p r × Behind l r rest

same_readings : (x y : Result Placed Fault) (xs ys : List (Result Placed Fault)) → x ∷ xs ≡ y ∷ ys → (x ≡ y) × (xs ≡ ys)
same_readings x y xs ys e = (cc, cc)

same_placed : (a b : Placed) → ◌≡◌ {A = Result Placed Fault} (Ok a) (Ok b) → a ≡ b
same_placed a b e = cc

same_fault : (f g : Fault) → ◌≡◌ {A = Result Placed Fault} (Err f) (Err g) → f ≡ g
same_fault f g e = cc

first-of : (l : List ℕ) (p : ℕ) (r : Result Read Fault) (rest : List (Result Placed Fault)) (i : Result Item Refusal) → p < length l → item_at l p ≡ i → readings_from l p ≡ reading r ∷ rest → FirstReading l p r rest
first-of l p (Ok r) rest (Ok i) h e is =
    let same = same_readings _ _ _ _ (sym (readings-at_record l p i e) ∙ is) in
    let placed = same_placed _ _ same.0 in
    let next = ap (λ (a : Placed). a.next) placed in
    (h, (e ∙ ap (λ (a : Placed). Ok a.item) placed, sym next, sym (ap (λ (a : Placed). a.place) placed)), sym same.1 ∙ ap (readings_from l) next)
first-of l p (Err f) rest (Ok i) h e is = let same = same_readings _ _ _ _ (sym (readings-at_record l p i e) ∙ is) in let x = same.0 in cc
first-of l p (Ok r) rest (Err why) h e is = let same = same_readings _ _ _ _ (sym (readings-at_fault l p why h e) ∙ is) in let x = same.0 in cc
first-of l p (Err f) rest (Err why) h e is =
    let same = same_readings _ _ _ _ (sym (readings-at_fault l p why h e) ∙ is) in
    let faults = same_fault _ _ same.0 in
    (h, (e ∙ ap (λ (g : Fault). Err g.refusal) faults, sym (ap (λ (g : Fault). g.detail) faults)), sym same.1)

-- the reading x that comes first where these are left from the place on, in the form r in which the code has it
pub first_reading : (l : List ℕ) (p : ℕ) {left rest : List (Result Placed Fault)} {x r : Result Read Fault} → left ≡ readings_from l p → left ≡ reading x ∷ rest → x ≡ r → FirstReading l p r rest
first_reading l p {rest = rest} {x = x} {r = r} from step is =
    let e = sym from ∙ step ∙ ap (λ y. reading y ∷ rest) is in
    ⊎_elim (λ before. first-of l p r rest (item_at l p) before refl e) (λ past. let none = sym (readings-at_end l p past) ∙ e in cc) (cases_lt p (length l))

-- nothing is left at the end alone
none-of : (l : List ℕ) (p : ℕ) (i : Result Item Refusal) → p < length l → item_at l p ≡ i → readings_from l p ≡ [] → ⊥
none-of l p (Ok i) h e is = let x = sym (readings-at_record l p i e) ∙ is in cc
none-of l p (Err why) h e is = let x = sym (readings-at_fault l p why h e) ∙ is in cc

pub none_left : (l : List ℕ) (p : ℕ) → readings_from l p ≡ [] → length l ≤ p
none_left l p e = ⊎_elim (λ before. absurd (none-of l p (item_at l p) before refl e)) (λ past. past) (cases_lt p (length l))

-- no more comes than there are bytes
few_more : (l : List ℕ) (p : ℕ) (i : Result Item Refusal) (rest : Parts) → p < length l → length (readings l rest) ≤ length l - after l p → length (readings l (part_of i p rest)) ≤ length l - p
few_more l p (Ok i) rest before few = omega arith
few_more l p (Err why) rest before few = omega arith

few_parts : (most : ℕ) (l : List ℕ) (p : ℕ) → length (readings l (parts most l p)) ≤ length l - p
few_parts zero l p = omega arith
few_parts (suc most) l p =
    ⊎_elim
    (λ before. subst (λ ps. length (readings l ps) ≤ length l - p) (sym (cond-false (leb (length l) p) _ _ (lt-leb (length l) p before))) (few_more l p (item_at l p) _ before (few_parts most l (after l p))))
    (λ past. subst (λ ps. length (readings l ps) ≤ length l - p) (sym (cond-true (leb (length l) p) _ _ (le-leb (length l) p past))) (omega arith))
    (cases_lt p (length l))

pub readings_few : (l : List ℕ) (p : ℕ) → length (readings_from l p) ≤ length l
readings_few l p = omega (arith, few_parts (suc (length l)) l p)
