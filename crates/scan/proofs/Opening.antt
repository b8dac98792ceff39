-- Opening by the scan's own numbers.
use Rattle.std.proofs.Common.{◌≡◌, ℕ, Bool, true, false, ◌||◌, eqb, ltb, List, [], Some, None, Ok, Err, Option, Result, sym, refl, ap, ◌∙◌, subst}
use Rattle.finder.specs.Words.{Rested, half_read}
use Rattle.finder.proofs.HalfRead.{half_read-nothing}
use Rattle.finder.specs.declared.finder.Finder.{Ghosts}
use Rattle.landmark.specs.Records.{or_else}
use Rattle.landmark.specs.Lists.{fault, list_verdict}
use Rattle.landmark.specs.Grammar.{landmarks_of, words_of}
use Rattle.landmark.specs.declared.refusal.Fault.{Fault}
use Rattle.landmark.specs.declared.refusal.Refusal.TheVariants.{OrderOut, BadLength}
use Rattle.landmark.proofs.ContentLaws.{Bytes}
use Rattle.landmark.proofs.VerdictLaws.{accepted_exactly}
use Rattle.plan.specs.Seats.{PlanOf}
use Rattle.track.specs.Tracking.{NothingFound}
use Rattle.track.proofs.Ends.{nothing_found}
use Rattle.scan.specs.Announced.{most_announced}
use Rattle.scan.specs.History.{Opening, open_on}
use Rattle.scan.specs.Rules.{Line, line, refusal, out_line, words_line, first_other, open_refusal}
use Rattle.scan.specs.Calls.{Upon, OpenOn, Opened}
use Rattle.scan.proofs.Comparing.{no_other}
use Rattle.scan.proofs.Facts.{own_at}
use Rattle.scan.proofs.Calling.{upon_so}
use Rattle.scan.specs.declared.order.Numbers.{Numbers}
use Rattle.scan.specs.declared.scan.Progress.{Progress}
use Rattle.scan.specs.declared.scan.Scan.{Scan}

-- a result that is no error
not_refused : {A : Type 0} (r : Result A Fault) → ((f : Fault) → r ≡ Err f → ⊥) → (a : A) × (r ≡ Ok a)
not_refused (Ok a) never = (a, refl)
not_refused (Err f) never = absurd (never f refl)

module _ (ws : List (List ℕ)) (held : Option Numbers) (list : List ℕ) (n : ℕ) (good : (f : Fault) → list_verdict list ≡ Err f → ⊥) where
  abbrev pub bad_length : Bool
  bad_length = eqb n 0 || ltb most_announced n

  -- the lines behind the list's own
  behind_list : open_refusal ws held list n ≡ or_else (out_line held) (or_else (line bad_length BadLength n) (or_else (words_line (first_other 0 ws (words_of list))) None))
  behind_list = ap (λ r. or_else (refusal r) (or_else (out_line held) (or_else (line bad_length BadLength n) (or_else (words_line (first_other 0 ws (words_of list))) None)))) (not_refused (list_verdict list) good).1

  pub order_out : (m : Numbers) → held ≡ Some m → open_refusal ws held list n ≡ Some (fault OrderOut m.landmark)
  order_out m is = behind_list ∙ ap (λ x. or_else (out_line x) (or_else (line bad_length BadLength n) (or_else (words_line (first_other 0 ws (words_of list))) None))) is

  module _ (free : held ≡ None) where
    behind_out : open_refusal ws held list n ≡ or_else (line bad_length BadLength n) (or_else (words_line (first_other 0 ws (words_of list))) None)
    behind_out = behind_list ∙ ap (λ x. or_else (out_line x) (or_else (line bad_length BadLength n) (or_else (words_line (first_other 0 ws (words_of list))) None))) free

    pub length-refused : bad_length ≡ true → open_refusal ws held list n ≡ Some (fault BadLength n)
    length-refused is = behind_out ∙ ap (λ x. or_else (line x BadLength n) (or_else (words_line (first_other 0 ws (words_of list))) None)) is

    pub behind_length : (o : Option ℕ) → bad_length ≡ false → o ≡ first_other 0 ws (words_of list) → open_refusal ws held list n ≡ or_else (words_line o) None
    behind_length o is other = behind_out ∙ ap (λ x. or_else (line x BadLength n) (or_else (words_line (first_other 0 ws (words_of list))) None)) is ∙ ap (λ x. or_else (words_line x) None) (sym other)

module _ {F : Type 0} (finder : Ghosts F) (s : Scan F) (list : List ℕ) (n : ℕ) (t : Scan F) where
  abbrev opening : Opening
  opening = record { list = list; announced = n }

  pub opened_so : (r : Result (Unit {0}) Fault) → t.out ≡ s.out → finder.words t.finder ≡ finder.words s.finder → Upon (open_refusal (finder.words s.finder) s.out list n) r (λ _. OpenOn finder opening [] t) s t → Opened finder s list n r t
  opened_so r same_out same-words u = record {
    always = upon_so _ _ r _ _ s t refl (λ _ at. own_at finder (open_on opening []) t at) u;
    same_out = same_out;
    same-words = same-words;
    upon = λ h holds. upon_so _ _ r _ _ s t (ap (λ x. open_refusal (finder.words s.finder) x list n) holds) (λ _ at. record { scan = at; order = same_out ∙ holds }) u;
  }

  pub opened_refused : (f : Fault) → t ≡ s → open_refusal (finder.words s.finder) s.out list n ≡ Some f → Opened finder s list n (Err f) t
  opened_refused f same is =
      opened_so (Err f) (ap (λ (x : Scan F). x.out) same) (ap (λ (x : Scan F). finder.words x.finder) same) (subst (λ (x : Line). Upon {A = Unit {0}} x (Err f) (λ _. OpenOn finder opening [] t) s t) (sym is) (refl, same))

  -- a scan that begins anew is open and has taken no bytes
  pub opened_anew : (p : Progress) → t.progress ≡ Some p → Bytes list → ((f : Fault) → list_verdict list ≡ Err f → ⊥) → PlanOf p.plan (landmarks_of list) → s.out ≡ None → (eqb n 0 || ltb most_announced n) ≡ false
      → first_other 0 (finder.words s.finder) (words_of list) ≡ None → Rested finder.words finder.halves s.finder t.finder → NothingFound p.tracks
      → p.announced ≡ n → p.taken ≡ 0 → t.out ≡ s.out → Opened finder s list n (Ok tt) t
  opened_anew p is bytes good plan free fit other rested nothing announced taken same_out =
      let (c, accepted) = not_refused (list_verdict list) good in
      let exact = accepted_exactly list (Ok c) bytes accepted in
      let same = no_other 0 (finder.words s.finder) (words_of list) other in
      let none = behind_length (finder.words s.finder) s.out list n good free None fit (sym other) in
      opened_so (Ok tt) same_out rested.kept
      (subst (λ (x : Line). Upon {A = Unit {0}} x (Ok tt) (λ _. OpenOn finder opening [] t) s t) (sym none) (
        p,
        is,
        record {
          announced = announced;
          taken = taken;
          well_formed = exact.0.well_formed;
          in_order = exact.2;
          plan = plan;
          same-words = rested.kept ∙ same;
          half = rested.half ∙ sym (half_read-nothing (finder.words s.finder)) ∙ ap (λ ws. half_read ws []) same;
          tracks = nothing_found (landmarks_of list) p.tracks exact.0.well_formed.each nothing;
        },
      ))
