-- The records of a list: what stands at a place, and the bytes of an element.
use Rattle.std.specs.Prelude.{◌≡◌, ℕ, ◌+◌, ◌-◌, ◌*◌, ◌/◌, ◌%◌, Bool, cond, ◌&&◌, List, [], ◌∷◌, ◌++◌, length, take, drop, Some, None, Ok, Err, Option, Result, ◌==◌, nat_le, slice_index, codes}
use Rattle.landmark.specs.declared.element.Role.{Role}
use Rattle.landmark.specs.declared.element.Role.TheVariants.{Entry, Bar}
use Rattle.landmark.specs.declared.element.Element.{Element}
use Rattle.landmark.specs.declared.element.Element.TheVariants as E
use Rattle.landmark.specs.declared.element.Read.{Read}
use Rattle.landmark.specs.declared.kind.Kind.{Kind}
use Rattle.landmark.specs.declared.kind.Kind.TheVariants as K
use Rattle.landmark.specs.declared.refusal.Refusal.{Refusal}
use Rattle.landmark.specs.declared.refusal.Refusal.TheVariants.{CutRecord, UnknownRecord, WrongBodySize, BadValue, NoSpace}
use Rattle.landmark.specs.declared.refusal.Fault.{Fault}

-- the most bytes of a run, and the most bytes a gap may skip
abbrev pub longest_run : ℕ
longest_run = 64

abbrev pub widest_gap : ℕ
widest_gap = 255

-- an element by its values: a run is its bytes
pub data Item : Type 0 where
  start : Role → Item
  run : List ℕ → Item
  gap : ℕ → ℕ → Item
  star : Item
  any : Item

abbrev pub item : Element → Item
item (E.Start role) = start role
item (E.Run bytes) = run bytes.now
item (E.Gap g) = gap g.least g.greatest
item E.Star = star
item E.Any = any

-- the two-byte number at a place, lowest byte first
abbrev pub two_bytes : List ℕ → ℕ → ℕ
two_bytes l p = slice_index l p + 256 * slice_index l (p + 1)

-- a number as two bytes, lowest first
abbrev pub as_two : ℕ → List ℕ
as_two n = n % 256 ∷ n / 256 ∷ []

-- the numbers of roles and of kinds of records
abbrev pub role_number : Role → ℕ
role_number Entry = 1
role_number Bar = 2

abbrev pub kind_number : Kind → ℕ
kind_number K.Start = 1
kind_number K.Run = 2
kind_number K.Gap = 3
kind_number K.Star = 4
kind_number K.Any = 5

-- how a role is printed
abbrev pub role_name : Role → List ℕ
role_name Entry = codes "entry"
role_name Bar = codes "bar"

-- a number stands for the value that has it, and is refused where none has it
abbrev pub Numbered : {A : Type 0} → (A → ℕ) → Refusal → ℕ → Result A Refusal → Type 0
Numbered number refusal n (Ok x) = number x ≡ n
Numbered {A} number refusal n (Err why) = (why ≡ refusal) × ((x : A) → ¬ (number x ≡ n))

-- the kind and the body of an item's record, and the whole record: its length counts the kind and the body
abbrev pub kind_of : Item → ℕ
kind_of (start role) = 1
kind_of (run bytes) = 2
kind_of (gap least greatest) = 3
kind_of star = 4
kind_of any = 5

abbrev pub body_of : Item → List ℕ
body_of (start role) = as_two (role_number role)
body_of (run bytes) = bytes
body_of (gap least greatest) = as_two least ++ as_two greatest
body_of star = []
body_of any = []

abbrev pub encoding : Item → List ℕ
encoding i = as_two (2 + length (body_of i)) ++ (as_two (kind_of i) ++ body_of i)

-- what a body of each kind stands for
abbrev pub start_of : List ℕ → Result Item Refusal
start_of body =
    cond (length body == 2) (cond (two_bytes body 0 == 1) (Ok (start Entry)) (cond (two_bytes body 0 == 2) (Ok (start Bar)) (Err BadValue))) (Err WrongBodySize)

-- a run has 1 to 64 bytes
abbrev pub run_fits : ℕ → Bool
run_fits size = nat_le 1 size && nat_le size longest_run

abbrev pub run_of : List ℕ → Result Item Refusal
run_of body = cond (run_fits (length body)) (Ok (run body)) (Err WrongBodySize)

-- a gap's least count is at most its greatest, and that at most 255
abbrev pub counts_fit : ℕ → ℕ → Bool
counts_fit least greatest = nat_le least greatest && nat_le greatest widest_gap

abbrev pub gap_of : List ℕ → Result Item Refusal
gap_of body =
    cond (length body == 4) (cond (counts_fit (two_bytes body 0) (two_bytes body 2)) (Ok (gap (two_bytes body 0) (two_bytes body 2))) (Err BadValue)) (Err WrongBodySize)

abbrev pub bare : Item → List ℕ → Result Item Refusal
bare i body = cond (length body == 0) (Ok i) (Err WrongBodySize)

-- the item that a kind and a body stand for
abbrev pub item_of : ℕ → List ℕ → Result Item Refusal
item_of kind body =
    cond (kind == 1) (start_of body) (cond (kind == 2) (run_of body) (cond (kind == 3) (gap_of body) (cond (kind == 4) (bare star body) (cond (kind == 5) (bare any body) (Err UnknownRecord)))))

-- what a reading of a body answers: the item that it stands for, or why it stands for none
abbrev pub Gives : Result Item Refusal → Result Element Refusal → Type 0
Gives i (Ok e) = i ≡ Ok (item e)
Gives i (Err why) = i ≡ Err why

-- a record's length is two bytes, and as many bytes as it says must remain after it
abbrev pub is_whole : ℕ → ℕ → Bool
is_whole remaining size = nat_le 2 remaining && nat_le size (remaining - 2)

-- the item of a record, by the bytes that remain from its place on, its length, its kind and its body
abbrev pub record_item : ℕ → ℕ → ℕ → List ℕ → Result Item Refusal
record_item remaining size kind body =
    cond (is_whole remaining size) (cond (nat_le 2 size) (item_of kind body) (Err UnknownRecord)) (Err CutRecord)

-- the body of the record at a place: the length counts the kind's two bytes too
abbrev pub body_at : List ℕ → ℕ → List ℕ
body_at l p = take (two_bytes l p - 2) (drop (p + 4) l)

-- the item whose record stands at a place, or why none does
abbrev pub item_at : List ℕ → ℕ → Result Item Refusal
item_at l p = record_item (length l - p) (two_bytes l p) (two_bytes l (p + 2)) (body_at l p)

-- the place after that record
abbrev pub after : List ℕ → ℕ → ℕ
after l p = p + 2 + two_bytes l p

-- reading one element: the item at the place, the place after it and the place, or the refusal at the given place
abbrev pub Reads : List ℕ → ℕ → Result Read Fault → Type 0
Reads l p (Ok r) = (item_at l p ≡ Ok (item r.element)) × (r.next ≡ after l p) × (r.place ≡ p)
Reads l p (Err f) = (item_at l p ≡ Err f.refusal) × (f.detail ≡ p)

-- why no record can stand for the item: none where one can
abbrev pub unfit : Item → Option Refusal
unfit (start role) = None
unfit (run bytes) = cond (run_fits (length bytes)) None (Some WrongBodySize)
unfit (gap least greatest) = cond (counts_fit least greatest) None (Some BadValue)
unfit star = None
unfit any = None

-- the buffer with the bytes put over it at the place
abbrev pub put : List ℕ → ℕ → List ℕ → List ℕ
put b p bytes = take p b ++ (bytes ++ drop (p + length bytes) b)

abbrev pub no_space : List ℕ → ℕ → Item → Option Refusal
no_space b p i = cond (nat_le (p + length (encoding i)) (length b)) None (Some NoSpace)

-- why a writing is refused: an unfit item comes before want of space
abbrev pub or_else : {A : Type 0} → Option A → Option A → Option A
or_else (Some x) later = Some x
or_else None later = later

abbrev pub write_refusal : List ℕ → ℕ → Item → Option Refusal
write_refusal b p i = or_else (unfit i) (no_space b p i)

-- writing one element: its record is put at the place, where it reads back; or a refusal, and nothing is touched
abbrev pub Writes : List ℕ → ℕ → Item → List ℕ → Result ℕ Fault → Type 0
Writes b p i a (Ok next) =
    (write_refusal b p i ≡ None) × (next ≡ p + length (encoding i)) × (a ≡ put b p (encoding i)) × (item_at a p ≡ Ok i) × (after a p ≡ next)
Writes b p i a (Err f) = (write_refusal b p i ≡ Some f.refusal) × (f.detail ≡ p) × (a ≡ b)
