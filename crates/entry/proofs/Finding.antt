-- Scanning a whole image in blocks, and entering it.
use Rattle.std.proofs.Common.{◌≡◌, ℕ, ◌+◌, ◌≤◌, Bool, true, false, not, eqb, ltb, List, [], ◌∷◌, ◌++◌, length, take, Some, None, Ok, Err, Option, Result, sym, refl, ap, ◌∙◌, subst, arith}
use Prim.{tt}
use Rattle.std.specs.Option.{option_map}
use Rattle.std.proofs.lemmas.List.{length-append, length-take-le, take_all}
use Rattle.std.proofs.lemmas.Bool.Decides.{nat_tests}
use Rattle.finder.specs.declared.finder.Finder.{Ghosts}
use Rattle.landmark.specs.Records.{or_else}
use Rattle.landmark.specs.declared.refusal.Fault.{Fault}
use Rattle.landmark.specs.declared.refusal.Refusal.TheVariants.{WrongPlace, Overrun}
use Rattle.scan.specs.History.{History, Opening, Status, opened, took, open_on, longer, status, out}
use Rattle.scan.specs.Rules.{Line, line, refusal, facts, image_line, open_refusal, offer_refusal, issue_refusal, end_at}
use Rattle.scan.specs.Calls.{own_facts, At, Stands, with_out, Made, Opened, Offered}
use Rattle.scan.proofs.Facts.{own_is}
use Rattle.scan.proofs.Lines.{neither}
use Rattle.scan.proofs.Standing.{upon_ok, upon_refusal, upon_told}
use Rattle.scan.proofs.Orders.{sound_issue}
use Rattle.scan.specs.declared.scan.Scan.{Scan}
use Rattle.order_client.specs.Entering.{Entered}
use Rattle.entry.specs.Blocks.{BlockTo}
use Rattle.entry.specs.Finding.{whole, entry_refusal, Finds}

-- a block that begins where the last ended and fits is accepted
accepted_block : (o : Opening) (image : List ℕ) (place size : ℕ) → place ≡ length image → length image + size ≤ o.announced → offer_refusal (facts (open_on o image)) place size ≡ None
accepted_block o image place size at room =
    let here : eqb place (length image) ≡ true = grind (arith, nat_tests) in
    let fits : ltb o.announced (length image + size) ≡ false = grind (arith, nat_tests) in
    ap (λ (b : Bool). or_else (line (not b) WrongPlace (length image)) (or_else (line (ltb o.announced (length image + size)) Overrun o.announced) None)) here
    ∙ ap (λ (b : Bool). or_else (line b Overrun o.announced) None) fits

pub ok_same : {A E : Type 0} {a b : A} → ◌≡◌ {A = Result A E} (Ok a) (Ok b) → a ≡ b
ok_same same = cc

module _ {F : Type 0} (finder : Ghosts F) (list image : List ℕ) where
  -- the scan has taken the first bytes of the image, and no order is out
  pub record Scanning (taken : ℕ) (s : Scan F) : Type 0 where
    pub history : History
    pub stands : Stands finder history s
    pub is : status history ≡ open_on (whole list image) (take taken image)
    pub free : out history ≡ None
    pub within : taken ≤ length image

  -- opening a new scan is refused as the rules say, or nothing of the image is taken yet
  pub scanning_opened : (f : F) (s t : Scan F) (r : Result (Unit {0}) Fault) → Made f s → Opened finder s list (length image) r t → refusal r ≡ open_refusal (finder.words f) None list (length image)
  scanning_opened f s t r made o = upon_refusal _ r _ s t (o.upon [] made.free) ∙ ap (λ (g : F). open_refusal (finder.words g) None list (length image)) made.finder

  pub scanning_none : (f : F) (s t : Scan F) (r : Result (Unit {0}) Fault) → Made f s → Opened finder s list (length image) r t → r ≡ Ok tt → Scanning 0 t
  scanning_none f s t r made o accepted =
      let free : open_refusal (finder.words s.finder) None list (length image) ≡ None = sym (upon_refusal _ r _ s t (o.upon [] made.free)) ∙ ap refusal accepted in
      let (_, _, stands) = upon_ok _ r _ s t free (o.upon [] made.free) in
      record { history = opened (whole list image) ∷ []; stands = stands; is = refl; free = refl; within = omega arith }

  -- a block up to a cut is accepted
  pub scanning_more : (taken cut : ℕ) (block : List ℕ) (s t : Scan F) (r : Result ℕ Fault) → Scanning taken s → BlockTo image taken cut block → Offered finder s taken block r t → (n : ℕ) × (r ≡ Ok n) × (n ≡ taken + length block) × Scanning n t
  scanning_more taken cut block s t r at cuts o =
      let size = cuts.size in
      let within = at.within in
      let so_far : length (take taken image) ≡ taken = length-take-le taken image within in
      let none = accepted_block (whole list image) (take taken image) taken (length block) (sym so_far) (omega arith) in
      let u = o.upon at.history at.stands in
      let line-is : offer_refusal (facts (status at.history)) taken (length block) ≡ None = ap (λ (x : Status). offer_refusal (facts x) taken (length block)) at.is ∙ none in
      let (n, is, stands) = upon_ok _ r _ s t line-is u in
      let status-is : status (took block ∷ at.history) ≡ open_on (whole list image) (take taken image ++ block) = ap (λ (x : Status). longer x block) at.is in
      let after : At finder (open_on (whole list image) (take taken image ++ block)) t = subst (λ (x : Status). At finder x t) status-is stands.scan in
      let (_, same, told) = upon_ok _ r _ s t (sym (upon_refusal _ r _ s t o.always) ∙ ap refusal is) o.always in
      let counted : ◌≡◌ {A = Option ℕ} (Some n) (Some after.0.taken) = ap Some (ok_same (sym is ∙ same)) ∙ sym told.0 ∙ ap (option_map (λ p. p.taken)) after.1 in
      let answer : n ≡ after.0.taken = cc in
      let joined = length-append (take taken image) block in
      let taken-after = after.2.taken in
      let count : n ≡ taken + length block = omega arith in (
        n,
        is,
        count,
        record {
          history = took block ∷ at.history;
          stands = stands;
          is = status-is ∙ ap (open_on (whole list image)) (cuts.joins within ∙ ap (λ (x : ℕ). take x image) (sym count));
          free = at.free;
          within = omega arith;
        },
      )

  -- and up to the image's end, all is taken
  pub scanning_all : (taken : ℕ) (block : List ℕ) (s t : Scan F) (r : Result ℕ Fault) → Scanning taken s → BlockTo image taken (length image) block → Offered finder s taken block r t → Scanning (length image) t
  scanning_all taken block s t r at cuts o =
      let (n, _, is, more) = scanning_more taken (length image) block s t r at cuts o in
      let size = cuts.size in
      let within = at.within in
      let all : n ≡ length image = omega arith in
      subst (λ (x : ℕ). Scanning x t) all more

  -- entering by what is then taken answers as the rules say, and soundly
  pub finds : (f : F) (k : ℕ) (s t : Scan F) (r : Result ℕ Fault) → open_refusal (finder.words f) None list (length image) ≡ None → Scanning (length image) s → Entered s k r t → Finds (finder.words f) list image k r
  finds f k s t r opens at e = answers r line-is e
    where
      own : own_facts s ≡ facts (open_on (whole list image) image)
      own = own_is finder at.history s at.stands ∙ ap facts (at.is ∙ ap (open_on (whole list image)) (take_all (length image) image (omega arith)))

      issue-is : issue_refusal s.out (own_facts s) k ≡ issue_refusal None (facts (open_on (whole list image) image)) k
      issue-is = ap (λ x. issue_refusal x (own_facts s) k) (at.stands.order ∙ at.free) ∙ ap (λ x. issue_refusal None x k) own

      line-is : entry_refusal (finder.words f) list image k ≡ refusal r
      line-is = ap (λ (x : Line). or_else x (issue_refusal None (facts (open_on (whole list image) image)) k)) opens ∙ sym issue-is ∙ sym (upon_refusal _ r _ s t e)

      answers : (r : Result ℕ Fault) → entry_refusal (finder.words f) list image k ≡ refusal r → Entered s k r t → Finds (finder.words f) list image k r
      answers (Err g) is u = is
      answers (Ok e) is u =
          let free : issue_refusal None (facts (open_on (whole list image) image)) k ≡ None = sym issue-is ∙ sym (upon_refusal _ (Ok e) _ s t u) in
          let told = upon_told _ e (λ (d : ℕ). (end_at (own_facts s) k ≡ Some d) × (t ≡ with_out None s)) s t u in
          let entry : end_at (facts (open_on (whole list image) image)) k ≡ Some e = ap (λ x. end_at x k) (sym own) ∙ told.0 in
          (is, sound_issue (whole list image) image k e (omega arith) (neither (image_line (facts (open_on (whole list image) image)) k) None free).0 entry)

-- an accepted call is not refused
pub not_refused : {A E X : Type 0} {r : Result A E} {a : A} {f : E} → r ≡ Ok a → r ≡ Err f → X
not_refused ok err = cc
