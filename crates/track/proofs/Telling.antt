-- The tracks while the words that end at a byte are told of one after another.
use Rattle.std.proofs.Common.{◌≡◌, ℕ, ◌%◌, ◌<◌, ◌≤◌, true, ◌⊎◌, List, length, get_or, Some, None, Option, sym, refl, ap, ◌∙◌, subst, inl, inr, ⊎_elim, arith}
use Rattle.std.proofs.lemmas.List.{get_or-set_other, get_or-set_same}
use Rattle.std.proofs.lemmas.Bool.{cases_eq, cases_lt}
use Rattle.std.specs.Option.{option_or}
use Rattle.std.specs.List.{slice_get}
use Rattle.finder.specs.Meaning.{Bit, ExactlyIf}
use Rattle.bits.specs.Lowest.{Lowest}
use Rattle.bits.proofs.Bits.{same_bit}
use Rattle.occurrence.proofs.SearchLaws.{occurs-within}
use Rattle.reach.specs.Reached.{gap_behind, more_words, up_to}
use Rattle.window.specs.Bits.{with_bit}
use Rattle.window.specs.Windows.{Empty, HoldsEnds, Marked, Marks, span}
use Rattle.window.proofs.Bits.{with_bit-other, with_bit-told}
use Rattle.window.proofs.Ends.{holds-agreeing, holds-other_word}
use Rattle.landmark.specs.Grammar.{Landmark}
use Rattle.plan.specs.Seats.{PlanOf, Seat, seats}
use Rattle.plan.specs.declared.plan.Plan.{Plan}
use Rattle.plan.proofs.SeatLaws.{stands}
use Rattle.track.specs.Telling.{Reaches, Telling, Told, filled}
use Rattle.track.specs.Tracking.{ActiveTells, IsFirst, KeptAs, ReachedAt, Rear, bounded, by_greatest, nothing, open_gap, rear}
use Rattle.track.specs.declared.tracks.Tracks.{Tracks}
use Rattle.track.proofs.Firsts.{first_found, first_kept, first_same}
use Rattle.track.proofs.Seating.{landmark_few, one_last, rear-inner}
use Rattle.track.proofs.Told.{told_other}

-- what is kept of a word is kept of every predicate that agrees
pub kept_same : (r : Rear) (P Q : ℕ → Type 0) (taken : ℕ) (t : Tracks) (k m : ℕ) → ((d : ℕ) → ExactlyIf (P d) (Q d)) → KeptAs r P taken t k m → KeptAs r Q taken t k m
kept_same nothing P Q taken t k m same kept = first_same P Q (get_or t.ends m None) same kept
kept_same open_gap P Q taken t k m same kept = first_same P Q (get_or t.firsts k None) same kept
kept_same bounded P Q taken t k m same kept = holds-agreeing P Q taken t.windows.numbers k (λ e _. same e) kept

-- the numbers Q are those of P, and the greatest e
record OneMore (P Q : ℕ → Type 0) (e : ℕ) : Type 0 where
  here : Q e
  more : (d : ℕ) → P d → Q d
  back : (d : ℕ) → Q d → P d ⊎ (d ≡ e)
  below : (d : ℕ) → P d → d ≤ e

-- the smallest of them, where e is put unless there was one
first_put : (P Q : ℕ → Type 0) (e : ℕ) (o : Option ℕ) → OneMore P Q e → IsFirst P o → IsFirst Q (option_or o (Some e))
first_put P Q e (Some x) one first = first_kept P Q e x one.more one.back one.below first
first_put P Q e None one first = first_found P Q e one.here one.back first

first_filled : (P Q : ℕ → Type 0) (e : ℕ) (xs ys : List (Option ℕ)) (i : ℕ) → i < length xs → ys ≡ filled xs i e → OneMore P Q e → IsFirst P (get_or xs i None) → IsFirst Q (get_or ys i None)
first_filled P Q e xs ys i within is one first =
    subst (IsFirst Q) (sym (ap (λ l. get_or l i None) is ∙ get_or-set_same xs i _ None within)) (first_put P Q e (get_or xs i None) one first)

-- the window in which e is marked
holds-marked : (P Q : ℕ → Type 0) (e : ℕ) (xs ys : List (List ℕ)) (k : ℕ) → k < 64 → 1 ≤ e → OneMore P Q e → Marks xs k e true ys → HoldsEnds P e xs k → HoldsEnds Q e ys k
holds-marked P Q e xs ys k few some one marks holds b small =
    ⊎_elim
    (λ at. (λ _. (e, (some, omega arith, omega arith), sym at, one.here), λ _. subst (Marked ys k) (sym at) ((marks.told few).1 refl)))
    (λ apart. let (back, there) = marks.other k b small (λ (_, at). apart at) in (
      λ set. let (d, recent, at, is) = (holds b small).0 (back set) in (d, recent, at, one.more d is),
      λ (d, recent, at, is). there ((holds b small).1 (d, recent, at, ⊎_elim (λ p. p) (λ last. absurd (apart (sym at ∙ ap (λ (n : ℕ). n % span) last))) (one.back d is))),
    ))
    (cases_eq b (e % span))

-- what is kept of the word that is reached
kept_own : (r : Rear) (P Q : ℕ → Type 0) (e : ℕ) (t u : Tracks) (k m : ℕ) → k < 64 → m < 32 → 1 ≤ e → OneMore P Q e → Reaches r t k m e u → KeptAs r P e t k m → KeptAs r Q e u k m
kept_own nothing P Q e t u k m few_words few some one reaches kept = first_filled P Q e t.ends u.ends m (let size = t.all_ends in omega arith) reaches.0 one kept
kept_own open_gap P Q e t u k m few_words few some one reaches kept = first_filled P Q e t.firsts u.firsts k (let size = t.all_firsts in omega arith) reaches.1 one kept
kept_own bounded P Q e t u k m few_words few some one reaches kept = holds-marked P Q e t.windows.numbers u.windows.numbers k few_words some one reaches.2 kept

-- what is kept of every other word
ends-other : (r : Rear) (t u : Tracks) (k m e i : ℕ) → Reaches r t k m e u → (r ≡ nothing → i ≡ m → ⊥) → get_or u.ends i None ≡ get_or t.ends i None
ends-other nothing t u k m e i reaches apart = ap (λ l. get_or l i None) reaches.0 ∙ get_or-set_other t.ends m i _ None (apart refl)
ends-other open_gap t u k m e i reaches apart = ap (λ l. get_or l i None) reaches.0
ends-other bounded t u k m e i reaches apart = ap (λ l. get_or l i None) reaches.0

firsts_other : (r : Rear) (t u : Tracks) (k m e i : ℕ) → Reaches r t k m e u → (i ≡ k → ⊥) → get_or u.firsts i None ≡ get_or t.firsts i None
firsts_other nothing t u k m e i reaches apart = ap (λ l. get_or l i None) reaches.1
firsts_other open_gap t u k m e i reaches apart = ap (λ l. get_or l i None) reaches.1 ∙ get_or-set_other t.firsts k i _ None apart
firsts_other bounded t u k m e i reaches apart = ap (λ l. get_or l i None) reaches.1

windows_other : (r : Rear) (P : ℕ → Type 0) (taken : ℕ) (t u : Tracks) (k m e i : ℕ) → Reaches r t k m e u → (i ≡ k → ⊥) → HoldsEnds P taken t.windows.numbers i → HoldsEnds P taken u.windows.numbers i
windows_other nothing P taken t u k m e i reaches apart holds = subst (λ xs. HoldsEnds P taken xs i) (sym reaches.2) holds
windows_other open_gap P taken t u k m e i reaches apart holds = subst (λ xs. HoldsEnds P taken xs i) (sym reaches.2) holds
windows_other bounded P taken t u k m e i reaches apart holds = holds-other_word P taken true t.windows.numbers u.windows.numbers k e i apart reaches.2 holds

kept_other : (r q : Rear) (P : ℕ → Type 0) (taken : ℕ) (t u : Tracks) (k m e i n : ℕ) → Reaches r t k m e u → (i ≡ k → ⊥) → (r ≡ nothing → q ≡ nothing → n ≡ m → ⊥) → KeptAs q P taken t i n → KeptAs q P taken u i n
kept_other r nothing P taken t u k m e i n reaches apart lasts kept = subst (IsFirst P) (sym (ends-other r t u k m e n reaches (λ is. lasts is refl))) kept
kept_other r open_gap P taken t u k m e i n reaches apart lasts kept = subst (IsFirst P) (sym (firsts_other r t u k m e i reaches apart)) kept
kept_other r bounded P taken t u k m e i n reaches apart lasts kept = windows_other r P taken t u k m e i reaches apart kept

-- a word that is marked is active
active_reached : (r : Rear) (t u : Tracks) (k m e : ℕ) → k < 64 → Reaches r t k m e u → ActiveTells t → ActiveTells u
active_reached nothing t u k m e few (_, _, same, active) tells i h none = subst (λ xs. Empty xs i) (sym same) (tells i h (λ bit. none (subst (λ a. Bit a i) (sym active) bit)))
active_reached open_gap t u k m e few (_, _, same, active) tells i h none = subst (λ xs. Empty xs i) (sym same) (tells i h (λ bit. none (subst (λ a. Bit a i) (sym active) bit)))
active_reached bounded t u k m e few (_, _, marks, active) tells i h none =
    ⊎_elim
    (λ own. absurd (none (subst (λ a. Bit a i) (sym active) (subst (Bit (with_bit t.active k true)) (sym own) ((with_bit-told t.active k true few).1 refl)))))
    (λ apart. λ b small set. tells i h (λ bit. none (subst (λ a. Bit a i) (sym active) ((same_bit (with_bit-other t.active k i true few h apart)).1 bit))) b small ((marks.other i b small (λ (own, _). apart own)).0 set))
    (cases_eq i k)

-- an empty window stays so, but for that of a word before a bounded gap
empty_reached : (r : Rear) (t u : Tracks) (k m e i : ℕ) → Reaches r t k m e u → (i ≡ k → r ≡ bounded → ⊥) → Empty t.windows.numbers i → Empty u.windows.numbers i
empty_reached nothing t u k m e i reaches apart empty = subst (λ xs. Empty xs i) (sym reaches.2) empty
empty_reached open_gap t u k m e i reaches apart empty = subst (λ xs. Empty xs i) (sym reaches.2) empty
empty_reached bounded t u k m e i reaches apart empty = λ b small set. empty b small ((reaches.2.other i b small (λ (own, _). apart own refl)).0 set)

-- a seat with nothing behind it is its landmark's last
last_index : (ms : List Landmark) (k : ℕ) (s : Seat) → slice_get (seats 0 ms) k ≡ Some s → rear s ≡ nothing → s.index ≡ more_words s.pattern
last_index ms k s there is =
    ⊎_elim (λ inner. absurd (some_gap (gap_behind s.pattern s.index).greatest (sym (rear-inner s inner) ∙ is))) (λ past. omega (arith, (stands 0 ms k s there).within)) (cases_lt s.index (more_words s.pattern))
  where
    some_gap : (o : Option ℕ) → by_greatest o ≡ nothing → ⊥
    some_gap None e = absurd (cc)
    some_gap (Some n) e = absurd (cc)

module _ (ms : List Landmark) (image : List ℕ) (left k rest : ℕ) (t : Tracks) (low : Lowest left k rest) (telling : Telling ms image left t) where
  -- the bit of every other word is as it was
  other_bit : (i : ℕ) → (i ≡ k → ⊥) → ExactlyIf (Bit left i) (Bit rest i)
  other_bit i apart = (λ bit. (low.others i).1 (bit, apart), λ bit. ((low.others i).0 bit).0)

  -- a word that is not reached is told so by taking its bit
  pub telling_passed : ((s : Seat) → slice_get (seats 0 ms) k ≡ Some s → ReachedAt s image (length image) → ⊥) → Telling ms image rest t
  telling_passed unreached = record {
    kept = λ i s there. kept_same (rear s) (Told left i s image (length image)) (Told rest i s image (length image)) (length image) t i s.landmark
        (λ d. ⊎_elim
        (λ own. (
          λ (r, _). (r, λ is _. unreached s (subst (λ j. slice_get (seats 0 ms) j ≡ Some s) own there) (subst (ReachedAt s image) is r)),
          λ (r, _). (r, λ is _. unreached s (subst (λ j. slice_get (seats 0 ms) j ≡ Some s) own there) (subst (ReachedAt s image) is r)),
        ))
        (λ apart. told_other left rest i s image (length image) d (other_bit i apart))
        (cases_eq i k))
        (telling.kept i s there);
    active = telling.active;
    only = telling.only;
  }

  -- a word that is reached is told so by keeping its end
  pub telling_reached : (p : Plan) (s : Seat) (u : Tracks) → PlanOf p ms → slice_get (seats 0 ms) k ≡ Some s → 1 ≤ length image → ReachedAt s image (length image) → Reaches (rear s) t k s.landmark (length image) u → Telling ms image rest u
  telling_reached p s u plan there some reached reaches = record {
    kept = λ i q at. ⊎_elim
        (λ own. let same : s ≡ q = cc in subst (λ j. KeptAs (rear q) (Told rest j q image (length image)) (length image) u j q.landmark) (sym own)
        (subst (λ (x : Seat). KeptAs (rear x) (Told rest k x image (length image)) (length image) u k x.landmark) same own_kept))
        (λ apart. kept_other (rear s) (rear q) (Told rest i q image (length image)) (length image) t u k s.landmark (length image) i q.landmark reaches apart
        (λ none-s none-q one. apart (one_last ms i k q s at there (last_index ms i q at none-q) (last_index ms k s there none-s) one))
        (kept_same (rear q) (Told left i q image (length image)) (Told rest i q image (length image)) (length image) t i q.landmark (λ d. told_other left rest i q image (length image) d (other_bit i apart)) (telling.kept i q at)))
        (cases_eq i k);
    active = active_reached (rear s) t u k s.landmark (length image) low.place reaches telling.active;
    only = λ i none. empty_reached (rear s) t u k s.landmark (length image) i reaches (λ own is. none s (subst (λ j. slice_get (seats 0 ms) j ≡ Some s) (sym own) there) is) (telling.only i none);
  }
    where
      one_more : OneMore (Told left k s image (length image)) (Told rest k s image (length image)) (length image)
      one_more = record {
        here = (reached, λ _ bit. ((low.others k).0 bit).1 refl);
        more = λ d (r, _). (r, λ _ bit. ((low.others k).0 bit).1 refl);
        back = λ d (r, _). ⊎_elim (λ last. inr last) (λ apart. inl (r, λ is _. apart is)) (cases_eq d (length image));
        below = λ d (r, _). occurs-within (up_to s.index s.pattern) image d r;
      }

      own_kept : KeptAs (rear s) (Told rest k s image (length image)) (length image) u k s.landmark
      own_kept = kept_own (rear s) (Told left k s image (length image)) (Told rest k s image (length image)) (length image) t u k s.landmark low.place (landmark_few p ms plan k s there) some one_more reaches (telling.kept k s there)
