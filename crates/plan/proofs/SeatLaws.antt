-- The seats of a list's words: neighbours in a landmark have neighbouring numbers.
use Rattle.std.proofs.Common.{◌≡◌, ℕ, zero, suc, ◌+◌, ◌-◌, ◌<◌, ◌≤◌, ◌⊎◌, List, [], ◌∷◌, ◌++◌, map, length, Some, sym, refl, ap, ◌∙◌, subst, inl, inr, ⊎_elim, zero-add, arith}
use Rattle.std.proofs.lemmas.List.{length-map}
use Rattle.std.proofs.lemmas.Bool.{cases_lt}
use Rattle.std.specs.List.{AllByRecursion, slice_get}
use Rattle.occurrence.specs.Occurrence.{Pattern}
use Rattle.reach.specs.Reached.{more_words, nth_word}
use Rattle.landmark.specs.Grammar.{Step, Landmark, GoodLandmark, all_words, chain, pattern_of, words_of_landmark}
use Rattle.plan.specs.Seats.{Seat, seats, seats_from}
use Rattle.plan.proofs.ReadingLaws.{landmark_size, length-seats_from}

-- the i-th seat of a row of seats
nth_seats_from : (n m : ℕ) (p : Pattern) (j i : ℕ) → i < n → slice_get (seats_from n m p j) i ≡ Some (record { landmark = m; pattern = p; index = j + i })
nth_seats_from zero m p j i h = absurd (omega arith)
nth_seats_from (suc n) m p j zero h = ap (λ k. Some (record { landmark = m; pattern = p; index = k })) (omega arith)
nth_seats_from (suc n) m p j (suc i) h = nth_seats_from n m p (suc j) i (omega arith) ∙ ap (λ k. Some (record { landmark = m; pattern = p; index = k })) (omega arith)

-- the front and the rest of two lists joined
nth_front : {X : Type 0} (xs ys : List X) (i : ℕ) → i < length xs → slice_get (xs ++ ys) i ≡ slice_get xs i
nth_front [] ys i h = absurd (omega arith)
nth_front (x ∷ xs) ys zero h = refl
nth_front (x ∷ xs) ys (suc i) h = nth_front xs ys i (omega arith)

nth_rest : {X : Type 0} (xs ys : List X) (i : ℕ) → slice_get (xs ++ ys) (length xs + i) ≡ slice_get ys i
nth_rest [] ys i = ap (slice_get ys) (omega arith)
nth_rest (x ∷ xs) ys i =
    let one_more : suc (length xs) + i ≡ suc (length xs + i) = omega arith in
    ap (slice_get (x ∷ (xs ++ ys))) one_more ∙ nth_rest xs ys i

-- the seat of word k: its landmark's seats stand from `offset` on, and the landmark is one of the list's
pub record Stands (m : ℕ) (ms : List Landmark) (k : ℕ) (s : Seat) : Type 0 where
  pub offset : ℕ
  pub number : k ≡ offset + s.index
  pub within : s.index ≤ more_words s.pattern
  pub each : (j : ℕ) → j ≤ more_words s.pattern → slice_get (seats m ms) (offset + j) ≡ Some (record { landmark = s.landmark; pattern = s.pattern; index = j })
  pub after : (t : Seat) → slice_get (seats m ms) (offset + suc (more_words s.pattern)) ≡ Some t → t.index ≡ 0
  pub from : m ≤ s.landmark
  pub landmark : (x : Landmark) × (slice_get ms (s.landmark - m) ≡ Some x) × (pattern_of x ≡ s.pattern)

-- the first seat of landmarks has index 0
first_seat : (m : ℕ) (ms : List Landmark) (t : Seat) → slice_get (seats m ms) 0 ≡ Some t → t.index ≡ 0
first_seat m [] t e = absurd (cc)
first_seat m (x ∷ xs) t e = let is : record { landmark = m; pattern = pattern_of x; index = 0 } ≡ t = cc in ap (λ (u : Seat). u.index) (sym is)

-- the seats of a landmark's own words, and those of the words behind it
module _ (m : ℕ) (x : Landmark) (xs : List Landmark) where
  own_seat : (i : ℕ) → i < suc (more_words (pattern_of x)) → slice_get (seats m (x ∷ xs)) i ≡ Some (record { landmark = m; pattern = pattern_of x; index = i })
  own_seat i h =
      let n = suc (more_words (pattern_of x)) in
      nth_front (seats_from n m (pattern_of x) 0) (seats (suc m) xs) i (subst (λ c. i < c) (sym (length-seats_from n m (pattern_of x) 0)) h)
      ∙ nth_seats_from n m (pattern_of x) 0 i h ∙ ap (λ c. Some (record { landmark = m; pattern = pattern_of x; index = c })) (zero-add i)

  later_seat : (i k : ℕ) → k ≡ suc (more_words (pattern_of x)) + i → slice_get (seats m (x ∷ xs)) k ≡ slice_get (seats (suc m) xs) i
  later_seat i k e =
      let n = suc (more_words (pattern_of x)) in
      ap (slice_get (seats m (x ∷ xs))) (e ∙ ap (λ c. c + i) (sym (length-seats_from n m (pattern_of x) 0))) ∙ nth_rest (seats_from n m (pattern_of x) 0) (seats (suc m) xs) i

  own_or_later : (k : ℕ) (s : Seat) → slice_get (seats m (x ∷ xs)) k ≡ Some s → ((k < suc (more_words (pattern_of x))) × (record { landmark = m; pattern = pattern_of x; index = k } ≡ s)) ⊎ ((suc (more_words (pattern_of x)) ≤ k) × (slice_get (seats (suc m) xs) (k - suc (more_words (pattern_of x))) ≡ Some s))
  own_or_later k s e =
      ⊎_elim (λ here. inl (here, cc (own_seat k here))) (λ past. inr (past, sym (later_seat (k - suc (more_words (pattern_of x))) k (omega arith)) ∙ e)) (cases_lt k (suc (more_words (pattern_of x))))

pub stands : (m : ℕ) (ms : List Landmark) (k : ℕ) (s : Seat) → slice_get (seats m ms) k ≡ Some s → Stands m ms k s
stands m [] k s e = absurd (cc)
stands m (x ∷ xs) k s e =
    ⊎_elim
    (λ (here, is). subst (λ (u : Seat). Stands m (x ∷ xs) k u) is (record {
      offset = 0;
      number = sym (zero-add k);
      within = omega arith;
      each = λ j h. ap (slice_get (seats m (x ∷ xs))) (zero-add j) ∙ own_seat m x xs j (omega arith);
      after = λ t there. first_seat (suc m) xs t (sym (later_seat m x xs 0 (0 + suc (more_words (pattern_of x))) (omega arith)) ∙ there);
      from = omega arith;
      landmark = (x, ap (slice_get (x ∷ xs)) {y = 0} (omega arith), refl);
    }))
    (λ (past, there). let later = stands (suc m) xs (k - suc (more_words (pattern_of x))) s there in
    let n = suc (more_words (pattern_of x)) in
    let step : s.landmark - m ≡ suc (s.landmark - suc m) = omega (arith, later.from) in
    record {
      offset = n + later.offset;
      number = omega (arith, later.number);
      within = later.within;
      each = λ j h. later_seat m x xs (later.offset + j) (n + later.offset + j) (omega arith) ∙ later.each j h;
      after = λ t is. later.after t (sym (later_seat m x xs (later.offset + suc (more_words s.pattern)) (n + later.offset + suc (more_words s.pattern)) (omega arith)) ∙ is);
      from = omega (arith, later.from);
      landmark = (later.landmark.0, ap (slice_get (x ∷ xs)) step ∙ later.landmark.1, later.landmark.2);
    })
    (own_or_later m x xs k s e)

-- a word is told by its landmark and its index there
pub one_seat : (m : ℕ) (ms : List Landmark) (k i : ℕ) (s t : Seat) → slice_get (seats m ms) k ≡ Some s → slice_get (seats m ms) i ≡ Some t → s.landmark ≡ t.landmark → s.index ≡ t.index → k ≡ i
one_seat m [] k i s t at-k at_i same-landmark same_index = absurd (cc)
one_seat m (x ∷ xs) k i s t at-k at_i same-landmark same_index =
    ⊎_elim
    (λ (_, is-s). ⊎_elim
    (λ (_, is-t). omega (arith, ap (λ (u : Seat). u.index) is-s, ap (λ (u : Seat). u.index) is-t))
    (λ (_, there). absurd (omega (arith, ap (λ (u : Seat). u.landmark) is-s, (stands (suc m) xs _ t there).from)))
    (own_or_later m x xs i t at_i))
    (λ (past-k, there-k). ⊎_elim
    (λ (_, is-t). absurd (omega (arith, ap (λ (u : Seat). u.landmark) is-t, (stands (suc m) xs _ s there-k).from)))
    (λ (past-i, there-i). omega (arith, one_seat (suc m) xs _ _ s t there-k there-i same-landmark same_index))
    (own_or_later m x xs i t at_i))
    (own_or_later m x xs k s at-k)

-- every landmark has a last word
pub last_seat : (m : ℕ) (ms : List Landmark) (i : ℕ) (x : Landmark) → slice_get ms i ≡ Some x → (k : ℕ) × (slice_get (seats m ms) k ≡ Some (record { landmark = m + i; pattern = pattern_of x; index = more_words (pattern_of x) }))
last_seat m [] i x e = absurd (cc)
last_seat m (y ∷ ys) zero x e =
    let is : y ≡ x = cc in
    let last : Landmark → ℕ → Seat = λ z n. record { landmark = n; pattern = pattern_of z; index = more_words (pattern_of z) } in
    (more_words (pattern_of y), own_seat m y ys (more_words (pattern_of y)) (omega arith) ∙ ap (λ z. Some (last z m)) is ∙ ap (λ n. Some (last x n)) (omega arith))
last_seat m (y ∷ ys) (suc i) x e =
    let (k, is) = last_seat (suc m) ys i x e in
    let last : ℕ → Seat = λ n. record { landmark = n; pattern = pattern_of x; index = more_words (pattern_of x) } in
    (suc (more_words (pattern_of y)) + k, later_seat m y ys k (suc (more_words (pattern_of y)) + k) refl ∙ is ∙ ap (λ n. Some (last n)) (omega arith))

-- the words of a landmark's pattern are those of its steps
chain-word : (ss : List Step) (j : ℕ) → j < length ss → slice_get (map (λ (s : Step). s.word) ss) j ≡ Some (nth_word (chain ss) j)
chain-word [] j h = absurd (omega arith)
chain-word (s ∷ []) zero h = refl
chain-word (s ∷ []) (suc j) h = absurd (omega arith)
chain-word (s ∷ t ∷ ss) zero h = refl
chain-word (s ∷ t ∷ ss) (suc j) h = chain-word (t ∷ ss) j (omega arith)

-- the word of a seat is the list's word of that number
pub seat_word : (m : ℕ) (ms : List Landmark) (k : ℕ) (s : Seat) → AllByRecursion GoodLandmark ms → slice_get (seats m ms) k ≡ Some s → slice_get (all_words ms) k ≡ Some (nth_word s.pattern s.index)
seat_word m [] k s good e = absurd (cc)
seat_word m (x ∷ xs) k s (good, goods) e =
    let n = suc (more_words (pattern_of x)) in
    let size : length (words_of_landmark x) ≡ n = length-map x.steps (λ (t : Step). t.word) ∙ sym (landmark_size x.steps good.begins) in
    let steps = landmark_size x.steps good.begins in
    ⊎_elim
    (λ (here, is). nth_front (words_of_landmark x) (all_words xs) k (omega arith) ∙ chain-word x.steps k (omega arith) ∙ ap (λ (u : Seat). Some (nth_word u.pattern u.index)) is)
    (λ (past, there). let split : k ≡ length (words_of_landmark x) + (k - n) = omega arith in
    ap (slice_get (words_of_landmark x ++ all_words xs)) split ∙ nth_rest (words_of_landmark x) (all_words xs) (k - n) ∙ seat_word (suc m) xs (k - n) s goods there)
    (own_or_later m x xs k s e)
