-- The records of a list, one after another.
use Rattle.std.proofs.Common.{◌≡◌, ℕ, zero, suc, ◌+◌, ◌<◌, ◌≤◌, cond, leb, List, ◌∷◌, length, Ok, Err, Option, sym, refl, ap, ◌∙◌, arith}
use Rattle.std.proofs.lemmas.Bool.{le-leb, lt-leb, cond-true, cond-false}
use Rattle.landmark.specs.Records.{Item, item_at, after}
use Rattle.landmark.specs.Lists.{Row, ended, broken, part, part_of, parts, parts_from, judged, unless, row_refusal, sort_of}
use Rattle.landmark.specs.Grammar.{items_of, runs_of, words_from}
use Rattle.landmark.specs.declared.refusal.Refusal.{Refusal}
use Rattle.landmark.proofs.ContentLaws.{stands}

-- enough is enough: the number of records at most makes no difference
parts_same : (k m : ℕ) (l : List ℕ) (p : ℕ) → length l < k + p → length l < m + p → parts k l p ≡ parts m l p
parts_same zero zero l p h g = refl
parts_same zero (suc m) l p h g = sym (cond-true (leb (length l) p) _ _ (le-leb (length l) p (omega arith)))
parts_same (suc k) zero l p h g = cond-true (leb (length l) p) _ _ (le-leb (length l) p (omega arith))
parts_same (suc k) (suc m) l p h g = ap (λ rest. cond (leb (length l) p) ended (part_of (item_at l p) p rest)) (parts_same k m l (after l p) (omega arith) (omega arith))

pub parts-at_end : (l : List ℕ) (p : ℕ) → length l ≤ p → parts_from l p ≡ ended
parts-at_end l p h = cond-true (leb (length l) p) _ _ (le-leb (length l) p h)

pub parts-at_record : (l : List ℕ) (p : ℕ) (i : Item) → p < length l → item_at l p ≡ Ok i → parts_from l p ≡ part p i (parts_from l (after l p))
parts-at_record l p i h e =
    cond-false (leb (length l) p) _ _ (lt-leb (length l) p h)
    ∙ ap (λ r. part_of r p (parts (length l) l (after l p))) e
    ∙ ap (part p i) (parts_same (length l) (suc (length l)) l (after l p) (omega arith) (omega arith))

pub parts-at_fault : (l : List ℕ) (p : ℕ) (why : Refusal) → p < length l → item_at l p ≡ Err why → parts_from l p ≡ broken why p
parts-at_fault l p why h e =
    cond-false (leb (length l) p) _ _ (lt-leb (length l) p h) ∙ ap (λ r. part_of r p (parts (length l) l (after l p))) e

-- one record judged
pub judged-record : (l : List ℕ) (p : ℕ) (i : Item) (row : Row) (refused : Option Refusal) → p < length l → item_at l p ≡ Ok i → row_refusal row (sort_of i) ≡ refused → judged (length l) row (parts_from l p) ≡ unless refused p (judged (length l) (i ∷ row) (parts_from l (after l p)))
judged-record l p i row refused h e r =
    ap (judged (length l) row) (parts-at_record l p i h e) ∙ ap (λ o. unless o p (judged (length l) (i ∷ row) (parts_from l (after l p)))) r

-- the words from a record on
pub words-at_record : (l : List ℕ) (p : ℕ) (i : Item) → item_at l p ≡ Ok i → words_from l p ≡ runs_of (i ∷ items_of (parts_from l (after l p)))
words-at_record l p i e =
    let fits = (stands l p i e).fits in
    ap (λ ps. runs_of (items_of ps)) (parts-at_record l p i (omega arith) e)
