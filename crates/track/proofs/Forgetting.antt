-- The windows forget an end, one active word after another.
use Rattle.std.proofs.Common.{◌≡◌, ℕ, ◌%◌, ◌<◌, false, ◌⊎◌, List, sym, ◌∙◌, subst, inl, inr, ⊎_elim}
use Rattle.std.proofs.lemmas.Bool.{cases_eq, false≢true}
use Rattle.finder.specs.Meaning.{Bit, ExactlyIf}
use Rattle.bits.specs.Lowest.{Lowest}
use Rattle.bits.proofs.Bits.{same_bit}
use Rattle.window.specs.Bits.{with_bit}
use Rattle.window.specs.Windows.{Empty, Marked, Marks, span}
use Rattle.window.proofs.Bits.{with_bit-other}
use Rattle.track.specs.Tracking.{ActiveTells}
use Rattle.track.specs.declared.tracks.Tracks.{Tracks}

-- the words whose bits are left have not forgotten the end yet
pub record Forgetting (before : Tracks) (end left : ℕ) (t : Tracks) : Type 0 where
  pub ends : t.ends ≡ before.ends
  pub firsts : t.firsts ≡ before.firsts
  pub done : ActiveTells before → (k c : ℕ) → k < 64 → c < span → (Bit left k → ⊥) → ExactlyIf (Marked t.windows.numbers k c) (Marked before.windows.numbers k c × (c ≡ end % span → ⊥))
  pub still : (k c : ℕ) → c < span → Bit left k → ExactlyIf (Marked t.windows.numbers k c) (Marked before.windows.numbers k c)
  pub active : ActiveTells before → ActiveTells t
  pub fewer : (k c : ℕ) → c < span → Marked t.windows.numbers k c → Marked before.windows.numbers k c

-- a bit cleared marks no more than was marked
marks_fewer : (xs ys : List (List ℕ)) (p end : ℕ) → p < 64 → Marks xs p end false ys → (k c : ℕ) → c < span → Marked ys k c → Marked xs k c
marks_fewer xs ys p end few marks k c g set =
    ⊎_elim
    (λ own. ⊎_elim
    (λ at. absurd (false≢true ((marks.told few).0 (subst (Marked ys p) at (subst (λ j. Marked ys j c) own set)))))
    (λ apart. (marks.other k c g (λ (_, at). apart at)).0 set)
    (cases_eq c (end % span)))
    (λ apart. (marks.other k c g (λ (own, _). apart own)).0 set)
    (cases_eq k p)

-- a word that is active no more was not so before, or has an empty window now
abbrev pub FewerActive : ℕ → ℕ → ℕ → List (List ℕ) → Type 0
FewerActive active p fewer ys = (k : ℕ) → k < 64 → (Bit fewer k → ⊥) → (Bit active k → ⊥) ⊎ ((k ≡ p) × Empty ys p)

-- one more word forgets the end
pub forgetting_more : (before : Tracks) (end left p rest : ℕ) (t u : Tracks) → Lowest left p rest → u.ends ≡ t.ends → u.firsts ≡ t.firsts
    → Marks t.windows.numbers p end false u.windows.numbers → FewerActive t.active p u.active u.windows.numbers → Forgetting before end left t → Forgetting before end rest u
forgetting_more before end left p rest t u low ends firsts marks fewer f =
    let xs = t.windows.numbers in
    let ys = u.windows.numbers in
    record {
      ends = ends ∙ f.ends;
      firsts = firsts ∙ f.firsts;
      done = λ tells k c h g none. ⊎_elim
          (λ own. subst (λ j. ExactlyIf (Marked ys j c) (Marked before.windows.numbers j c × (c ≡ end % span → ⊥))) (sym own) (forgotten c g))
          (λ apart.
          let (back, there) = marks.other k c g (λ (own, _). apart own) in
          let (was, is) = f.done tells k c h g (λ bit. none ((low.others k).1 (bit, apart))) in
          (λ m. was (back m), λ m. there (is m)))
          (cases_eq k p);
      still = λ k c g bit.
          let (was-left, apart) = (low.others k).0 bit in
          let (back, there) = marks.other k c g (λ (own, _). apart own) in
          let (was, is) = f.still k c g was-left in
          (λ m. was (back m), λ m. there (is m));
      active = λ tells k h none. ⊎_elim
          (λ was. λ c g m. f.active tells k h was c g (marks_fewer xs ys p end low.place marks k c g m))
          (λ (own, empty). subst (Empty ys) (sym own) empty)
          (fewer k h none);
      fewer = λ k c g m. f.fewer k c g (marks_fewer xs ys p end low.place marks k c g m);
    }
  where
    -- the word's own window
    forgotten : (c : ℕ) → c < span → ExactlyIf (Marked u.windows.numbers p c) (Marked before.windows.numbers p c × (c ≡ end % span → ⊥))
    forgotten c g =
        let (was, is) = f.still p c g low.set in
        ⊎_elim
        (λ at. (λ m. absurd (false≢true ((marks.told low.place).0 (subst (Marked u.windows.numbers p) at m))), λ (_, other). absurd (other at)))
        (λ apart. let (back, there) = marks.other p c g (λ (_, at). apart at) in (λ m. (was (back m), apart), λ (m, _). there (is m)))
        (cases_eq c (end % span))

-- the active words stay
pub active_kept : (active p : ℕ) (ys : List (List ℕ)) → FewerActive active p active ys
active_kept active p ys k h none = inl none

-- a word with an empty window is active no more
pub active_fewer : (active p fewer : ℕ) (ys : List (List ℕ)) → p < 64 → fewer ≡ with_bit active p false → Empty ys p → FewerActive active p fewer ys
active_fewer active p fewer ys few cleared empty k h none =
    ⊎_elim (λ own. inr (own, empty))
    (λ apart. inl (λ bit. none (subst (λ a. Bit a k) (sym cleared) ((same_bit (with_bit-other active p k false few h apart)).1 bit))))
    (cases_eq k p)
