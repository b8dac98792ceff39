-- Taking the bytes of a block, one after another.
use Rattle.std.proofs.Common.{◌≡◌, ℕ, zero, suc, ◌+◌, ◌-◌, ◌<◌, ◌≤◌, Bool, true, false, not, eqb, ltb, List, [], ◌∷◌, ◌++◌, length, get_or, take, Some, None, Ok, Err, sym, refl, ap, ◌∙◌, subst, append_assoc, append-nil, arith}
use Rattle.std.proofs.lemmas.Bool.Decides.{nat_tests}
use Rattle.std.proofs.lemmas.List.{drop_all, length-append}
use Rattle.std.specs.List.{slice_get}
use Rattle.occurrence.specs.Occurrence.{Ends}
use Rattle.occurrence.proofs.PartsLaws.{parts_from-ends, ends-from_parts}
use Rattle.reach.specs.Reached.{nth_word}
use Rattle.finder.specs.Words.{advance_all, half_read, mask, word}
use Rattle.finder.specs.Meaning.{EndsWith, ExactlyIf}
use Rattle.finder.proofs.HalfRead.{advance-half_read}
use Rattle.finder.proofs.Hearing.{found_half_read}
use Rattle.finder.specs.declared.finder.Finder.{Ghosts}
use Rattle.landmark.specs.Records.{or_else}
use Rattle.landmark.specs.Lists.{fault}
use Rattle.landmark.specs.declared.refusal.Fault.{Fault}
use Rattle.landmark.specs.declared.refusal.Refusal.TheVariants.{WrongPlace, Overrun}
use Rattle.landmark.specs.Grammar.{Landmark, WellFormed, all_words, landmarks_of, words_of}
use Rattle.plan.specs.Seats.{PlanOf}
use Rattle.plan.proofs.SeatLaws.{seat_word}
use Rattle.track.specs.Stepping.{BitsTell}
use Rattle.scan.specs.History.{Opening, Status, idle, open_on, longer, status}
use Rattle.scan.specs.Rules.{line, offer_refusal}
use Rattle.scan.specs.Calls.{At, HasTaken, Offered, own_facts}
use Rattle.scan.proofs.Asking.{answered, own_open, refused-by}
use Rattle.scan.proofs.Facts.{own_is}
use Rattle.scan.specs.Taking.{NextByte, NextBytes}
use Rattle.scan.proofs.Lines.{some_none, nth_within}
use Rattle.scan.specs.declared.scan.Progress.{Progress}
use Rattle.scan.specs.declared.scan.Scan.{Scan}

-- bytes end with a word exactly if it ends at their last byte
ends_last : (w bytes : List ℕ) → ExactlyIf (EndsWith bytes w) (Ends w bytes (length bytes))
ends_last w bytes = (
  λ (front, is). ends-from_parts w bytes front [] (length bytes) (is ∙ ap (λ xs. front ++ xs) (sym (append-nil w))) (ap length is ∙ length-append front w),
  λ ends. (take (length bytes - length w) bytes, parts_from-ends w bytes (length bytes) ends ∙ ap (λ xs. take (length bytes - length w) bytes ++ (w ++ xs)) (drop_all (length bytes) bytes (omega arith)) ∙ ap (λ xs. take (length bytes - length w) bytes ++ xs) (append-nil w)),
)

nth-get_or : {X : Type 0} (xs : List X) (k : ℕ) (d x : X) → slice_get xs k ≡ Some x → get_or xs k d ≡ x
nth-get_or [] k d x e = some_none (sym e)
nth-get_or (y ∷ xs) zero d x e = cc
nth-get_or (y ∷ xs) (suc k) d x e = nth-get_or xs k d x e

-- the mask of what the bytes define tells the words that end with them
bits_tell : (ms : List Landmark) (ws : List (List ℕ)) (bytes : List ℕ) → WellFormed ms → ws ≡ all_words ms → BitsTell ms bytes (mask ws (half_read ws bytes))
bits_tell ms ws bytes good same k s at =
    let there : slice_get ws k ≡ Some (nth_word s.pattern s.index) = ap (λ xs. slice_get xs k) same ∙ seat_word 0 ms k s good.each at in
    let found = found_half_read ws bytes k (nth_within ws k _ there) in
    let is : word ws k ≡ nth_word s.pattern s.index = nth-get_or ws k [] _ there in
    let last = ends_last (nth_word s.pattern s.index) bytes in
    (λ bit. last.0 (subst (EndsWith bytes) is (found.0 bit)), λ ends. found.1 (subst (EndsWith bytes) (sym is) (last.1 ends)))

module _ {F : Type 0} (finder : Ghosts F) where
  takes_more : (o : Opening) (image : List ℕ) (f : F) (p : Progress) (b : ℕ) (g : F) (q : Progress) → NextByte finder f p b g q → HasTaken finder o image f p → HasTaken finder o (image ++ (b ∷ [])) g q
  takes_more o image f p b g q n at =
      let ws = words_of o.list in
      let half : finder.halves g ≡ half_read ws (image ++ (b ∷ [])) =
      n.took.half ∙ ap (λ vs. advance_all vs b (finder.halves f)) at.same-words ∙ ap (advance_all ws b) at.half ∙ advance-half_read ws b image in
      let mask_is : n.ending ≡ mask ws (half_read ws (image ++ (b ∷ []))) = n.took.tells ∙ ap (λ vs. mask vs (finder.halves g)) at.same-words ∙ ap (mask ws) half in
      let taken = n.longer.taken in
      let before = at.taken in
      let size = length-append image (b ∷ []) in
      record {
        announced = n.longer.announced ∙ at.announced;
        taken = omega arith;
        well_formed = at.well_formed;
        in_order = at.in_order;
        plan = subst (λ x. PlanOf x (landmarks_of o.list)) (sym n.longer.plan) at.plan;
        same-words = n.took.kept ∙ at.same-words;
        half = half;
        tracks = n.tracks (landmarks_of o.list) image b at.well_formed at.plan at.tracks (ap (λ (x : ℕ). x + 1) before)
            (subst (BitsTell (landmarks_of o.list) (image ++ (b ∷ []))) (sym mask_is) (bits_tell (landmarks_of o.list) ws (image ++ (b ∷ [])) at.well_formed at.in_order));
      }

  pub one_more : (f : F) (p : Progress) (block : List ℕ) (g : F) (q : Progress) (b : ℕ) (h : F) (u : Progress) → NextBytes finder f p block g q → NextByte finder g q b h u → NextBytes finder f p (block ++ (b ∷ [])) h u
  one_more f p block g q b h u before n =
      let so_far = before.longer.taken in
      let taken = n.longer.taken in
      let size = length-append block (b ∷ []) in
      record {
        same-words = n.took.kept ∙ before.same-words;
        longer = record { taken = omega arith; announced = n.longer.announced ∙ before.longer.announced; plan = n.longer.plan ∙ before.longer.plan };
        follows = λ o image at. subst (λ xs. HasTaken finder o xs h u) (append_assoc image block (b ∷ [])) (takes_more o (image ++ block) g q b h u n (before.follows o image at));
      }

  module _ (s : Scan F) (place : ℕ) (block : List ℕ) where
    -- where nothing is taken
    pub offered_refused : (f : Fault) → offer_refusal (own_facts s) place (length block) ≡ Some f → Offered finder s place block (Err f) s
    offered_refused f is = record {
      always = refused-by _ f _ s is;
      same_out = refl;
      same-words = refl;
      upon = λ h st. refused-by _ f _ s (sym (ap (λ x. offer_refusal x place (length block)) (own_is finder h s st)) ∙ is);
    }

    module _ (p : Progress) (is_open : s.progress ≡ Some p) where
      module _ (at : place ≡ p.taken) where
        right_place : offer_refusal (own_facts s) place (length block) ≡ or_else (line (ltb p.announced (p.taken + length block)) Overrun p.announced) None
        right_place =
            let here : eqb place p.taken ≡ true = grind (arith, nat_tests) in
            ap (λ x. offer_refusal x place (length block)) (own_open s p is_open)
            ∙ ap (λ (b : Bool). or_else (line (not b) WrongPlace p.taken) (or_else (line (ltb p.announced (p.taken + length block)) Overrun p.announced) None)) here

        pub overrun : p.announced - p.taken < length block → offer_refusal (own_facts s) place (length block) ≡ Some (fault Overrun p.announced)
        overrun over =
            let past : ltb p.announced (p.taken + length block) ≡ true = grind (arith, nat_tests) in
            right_place ∙ ap (λ (b : Bool). or_else (line b Overrun p.announced) None) past

        -- where the block is taken
        pub offered_taken : (g : F) (q : Progress) → length block ≤ p.announced - p.taken → NextBytes finder s.finder p block g q → Offered finder s place block (Ok q.taken) (record { finder = g; progress = Some q; out = s.out })
        offered_taken g q fits more =
            let t : Scan F = record { finder = g; progress = Some q; out = s.out } in
            let room = p.within in
            let past : ltb p.announced (p.taken + length block) ≡ false = grind (arith, nat_tests) in
            let none : offer_refusal (own_facts s) place (length block) ≡ None = right_place ∙ ap (λ (b : Bool). or_else (line b Overrun p.announced) None) past in
            record {
              always = answered _ q.taken _ s t none (refl, (p, q, is_open, refl, more.longer));
              same_out = refl;
              same-words = more.same-words;
              upon = λ h st. answered _ q.taken _ s t (sym (ap (λ x. offer_refusal x place (length block)) (own_is finder h s st)) ∙ none) (record { scan = longer-at g q more (status h) st.scan; order = st.order });
            }
          where
            longer-at : (g : F) (q : Progress) → NextBytes finder s.finder p block g q → (st : Status) → At finder st s → At finder (longer st block) (record { finder = g; progress = Some q; out = s.out })
            longer-at g q more idle at = some_none (sym is_open ∙ at)
            longer-at g q more (open_on o image) (x, is, at) =
                let same : x ≡ p = cc in
                (q, refl, more.follows o image (subst (HasTaken finder o image s.finder) same at))
