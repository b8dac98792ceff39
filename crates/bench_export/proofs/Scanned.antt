-- Scanning a whole image in blocks.
use Rattle.std.proofs.Common.{◌≡◌, ℕ, ◌+◌, ◌-◌, ◌≤◌, true, false, List, ◌++◌, length, take, drop, None, Ok, Err, Result, IsOk, sym, refl, ap, ◌∙◌, subst, arith, drop-drop}
use Rattle.std.specs.Result.{is_ok, is_err}
use Prim.{tt}
use Rattle.std.proofs.Math.Seq.{take-append_seam, drop-append_seam, take-add}
use Rattle.std.proofs.lemmas.List.{length-append, length-drop, take_all}
use Rattle.finder.specs.declared.finder.Finder.{Ghosts}
use Rattle.landmark.specs.declared.refusal.Fault.{Fault}
use Rattle.scan.specs.History.{open_on}
use Rattle.scan.specs.Rules.{Line, facts, refusal, open_refusal}
use Rattle.scan.specs.Calls.{Made, Opened, Offered, own_facts}
use Rattle.scan.proofs.Facts.{own_is}
use Rattle.scan.specs.declared.scan.Scan.{Scan}
use Rattle.entry.specs.Blocks.{BlockTo}
use Rattle.entry.specs.Finding.{whole}
use Rattle.entry.proofs.Finding.{Scanning, ok_same, scanning_more, scanning_opened}
use Rattle.bench_export.specs.Scans.{Scans, asked_landmarks, ends_sum, sum_unless}

-- the answer of a call that is accepted
pub accepted : (r : Result (Unit {0}) Fault) → is_err r ≡ false → r ≡ Ok tt
accepted (Ok done) is = refl
accepted (Err f) is = cc

-- the next chunk of an image is a block, and the rest comes behind it
next_chunk : (image chunk rest : List ℕ) (taken : ℕ) → taken ≤ length image → drop taken image ≡ chunk ++ rest → BlockTo image taken (taken + length chunk) chunk × (drop (taken + length chunk) image ≡ rest)
next_chunk image chunk rest taken within left =
    let size : length image - taken ≡ length chunk + length rest = sym (length-drop taken image) ∙ ap length left ∙ length-append chunk rest in
    let first : take (length chunk) (drop taken image) ≡ chunk = ap (take (length chunk)) left ∙ take-append_seam chunk rest in (
      record { size = omega arith; joins = λ _. sym (take-add taken (length chunk) image ∙ ap (λ xs. take taken image ++ xs) first) },
      sym (drop-drop (length chunk) taken image) ∙ ap (drop (length chunk)) left ∙ drop-append_seam chunk rest,
    )

module _ {F : Type 0} (finder : Ghosts F) (list image : List ℕ) where
  -- the next chunk is accepted, and all but the rest is then taken
  pub scans_more : (taken : ℕ) (chunk rest : List ℕ) (s t : Scan F) (r : Result ℕ Fault) → Scanning finder list image taken s → drop taken image ≡ chunk ++ rest → Offered finder s taken chunk r t
      → IsOk r × ((n : ℕ) → r ≡ Ok n → Scanning finder list image n t × (drop n image ≡ rest))
  scans_more taken chunk rest s t r at left o =
      let next = next_chunk image chunk rest taken at.within left in
      answers (scanning_more finder list image taken (taken + length chunk) chunk s t r at next.0 o) next.1
    where
      answers : (m : ℕ) × (r ≡ Ok m) × (m ≡ taken + length chunk) × Scanning finder list image m t → drop (taken + length chunk) image ≡ rest
          → IsOk r × ((n : ℕ) → r ≡ Ok n → Scanning finder list image n t × (drop n image ≡ rest))
      answers (m, is, count, more) behind =
          (ap is_ok is, λ n so. subst (λ (k : ℕ). Scanning finder list image k t × (drop k image ≡ rest)) (ok_same (sym is ∙ so)) (more, ap (λ (k : ℕ). drop k image) count ∙ behind))

module _ {F : Type 0} (finder : Ghosts F) (list image : List ℕ) (f : F) where
  -- where opening is refused
  pub scans_none : (s t : Scan F) (r : Result (Unit {0}) Fault) → is_err r ≡ true → Made f s → Opened finder s list (length image) r t → Scans (finder.words f) list image 0
  scans_none s t (Ok done) is made o = cc
  scans_none s t (Err e) is made o = sym (ap (λ (x : Line). sum_unless x list image) (sym (scanning_opened finder list image f s t (Err e) made o)))

  -- where it is accepted and all bytes are taken
  pub scans_all : (s t u : Scan F) (r : Result (Unit {0}) Fault) (taken sum : ℕ) → Made f s → Opened finder s list (length image) r t → r ≡ Ok tt
      → Scanning finder list image taken u → length image ≤ taken → sum ≡ ends_sum (own_facts u) asked_landmarks → Scans (finder.words f) list image sum
  scans_all s t u r taken sum made o is at all so =
      let free : open_refusal (finder.words f) None list (length image) ≡ None = sym (scanning_opened finder list image f s t r made o) ∙ ap refusal is in
      let own : own_facts u ≡ facts (open_on (whole list image) image) = own_is finder at.history u at.stands ∙ ap facts (at.is ∙ ap (open_on (whole list image)) (take_all taken image all)) in
      so ∙ ap (λ x. ends_sum x asked_landmarks) own ∙ sym (ap (λ (x : Line). sum_unless x list image) free)
