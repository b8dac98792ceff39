-- The nodes that each word makes, by their numbers.
use Rattle.std.proofs.Common.{◌≡◌, ℕ, zero, suc, ◌+◌, ◌-◌, ◌<◌, ◌≤◌, List, [], ◌∷◌, ◌++◌, length, take, sum_by, sym, refl, ap, ◌∙◌, subst, ⊎_elim, arith, take-suc}
use lib.Seq.{take-length}
use Rattle.std.specs.List.{ContainsAt as Has}
use Rattle.std.proofs.lemmas.List.{get_or_append_left, get_or_push, length_push}
use Rattle.std.proofs.lemmas.List.Sums.{sum_by-cons}
use Rattle.std.proofs.lemmas.Bool.{cases_eq, cases_lt}
use Rattle.landmark.specs.Grammar.{sizes}
use Rattle.finder.specs.Words.{word}
use Rattle.words.specs.Index.{indexed}
use Rattle.words.specs.Sizes.{indexed-few, indexed-sized}
use Rattle.words.specs.declared.words.Words.{Words}
use Rattle.words.proofs.Placing.{sizes-most}
use Rattle.nodes.specs.Nodes.{strings, string, number}
use Rattle.nodes.proofs.Entering.{length-strings, length-strings_push, shared-fronts, shared-small, string-entered}
use Rattle.nodes.proofs.Strings.{closed_strings, distinct_strings}
use Rattle.link.specs.Shape.{BeginsWith, NoneBefore, Makes, PartsOf, part_of, shared_by, base_of, made_by}
use Rattle.link.specs.declared.shape.Part.{Part}
use Rattle.link.proofs.Beginning.{front-is, none_earlier}

-- a word adds one node for each byte that it does not share
pub base_more : (ws : List (List ℕ)) (k : ℕ) → k < length ws → base_of ws (suc k) ≡ base_of ws k + (length (word ws k) - shared_by ws k)
base_more ws k inside = ap (λ us. length (strings us)) (take-suc ws k [] inside) ∙ length-strings_push (take k ws) (word ws k)

-- all words make all nodes
pub base_all : (ws : List (List ℕ)) → base_of ws (length ws) ≡ length (strings ws)
base_all ws = ap (λ us. length (strings us)) (take-length ws)

-- more words make no fewer nodes
pub base_rises : (ws : List (List ℕ)) (j k : ℕ) → j ≤ k → k ≤ length ws → base_of ws j ≤ base_of ws k
base_rises ws j zero low high = let at : j ≡ 0 = omega arith in subst (λ n. base_of ws n ≤ base_of ws 0) (sym at) (omega arith)
base_rises ws j (suc k) low high =
    ⊎_elim (λ at. subst (λ n. base_of ws j ≤ base_of ws n) at (omega arith)) (λ apart. omega (arith, base_rises ws j k (omega arith) (omega arith), base_more ws k (omega arith))) (cases_eq j (suc k))

-- the bytes of the words are their sum
pub sizes-sum : (ws : List (List ℕ)) → sizes ws ≡ sum_by length ws
sizes-sum [] = refl
sizes-sum (w ∷ ws) = omega (arith, sizes-sum ws, sum_by-cons length w ws)

-- the root and one node for each byte at most
pub nodes_most : (ws : List (List ℕ)) → length (strings ws) ≤ 1 + sizes ws
nodes_most ws = omega (arith, length-strings ws, sizes-sum ws)

-- the words of an index have few bytes
pub bytes_few : (w : Words) → sizes (indexed w) ≤ 4096
bytes_few w = omega (arith, sizes-most 64 (indexed w) (λ k within. (indexed-sized w k within).1), indexed-few w)

-- and make few nodes
pub nodes_few : (w : Words) → length (strings (indexed w)) ≤ 4097
nodes_few w = omega (arith, nodes_most (indexed w), bytes_few w)

pub base_few : (w : Words) (k : ℕ) → k ≤ length (indexed w) → base_of (indexed w) k ≤ 4097
base_few w k within = omega (arith, base_rises (indexed w) k (length (indexed w)) within (omega arith), base_all (indexed w), nodes_few w)

-- no more than the word is shared
pub shared-short : (ws : List (List ℕ)) (k : ℕ) → shared_by ws k ≤ length (word ws k)
shared-short ws k = shared-small (strings (take k ws)) (word ws k)

-- the node that word k makes of its first d bytes
module _ (ws : List (List ℕ)) (k d : ℕ) (made : Makes ws k d) where
  -- its number lies before that of the first node of the next word
  pub makes_below : made_by ws k d < base_of ws (suc k)
  makes_below = omega (arith, made.above, made.within, base_more ws k made.inside)

  pub makes_node : made_by ws k d < length (strings ws)
  makes_node = omega (arith, makes_below, base_rises ws (suc k) (length ws) made.inside (omega arith), base_all ws)

  -- its string
  pub makes_string : string (strings ws) (made_by ws k d) ≡ take d (word ws k)
  makes_string = string-entered ws k d made.inside made.above made.within

  -- so its number is that of its string
  pub makes_number : number (strings ws) (take d (word ws k)) ≡ made_by ws k d
  makes_number = ap (number (strings ws)) (sym makes_string) ∙ distinct_strings ws (made_by ws k d) makes_node

-- each node below the first of word n, but the root, is made by a word
maker_before : (ws : List (List ℕ)) (n m : ℕ) → n ≤ length ws → 0 < m → m < base_of ws n → (k : ℕ) × (d : ℕ) × Makes ws k d × (m ≡ made_by ws k d)
maker_before ws zero m within some below = absurd (omega arith)
maker_before ws (suc k) m within some below =
    let more = base_more ws k (omega arith) in
    ⊎_elim (maker_before ws k m (omega arith) some)
    (λ new. (k, m - base_of ws k + shared_by ws k + 1, record { inside = omega arith; above = omega arith; within = omega arith }, omega arith))
    (cases_lt m (base_of ws k))

-- so each node but the root is
pub maker : (ws : List (List ℕ)) (m : ℕ) → 0 < m → m < length (strings ws) → (k : ℕ) × (d : ℕ) × Makes ws k d × (m ≡ made_by ws k d)
maker ws m some below = maker_before ws (length ws) m (omega arith) some (omega (arith, base_all ws))

-- the lowest word that begins with a string makes its node
pub first_makes : (ws : List (List ℕ)) (s : List ℕ) (i : ℕ) → i < length ws → 0 < length s → BeginsWith (word ws i) s → NoneBefore ws s i → Makes ws i (length s)
first_makes ws s i inside some begins none =
    let (short, is) = front-is (word ws i) s begins in
    let older = strings (take i ws) in
    let new : length s ≤ shared_by ws i → ⊥ = λ old. none_earlier ws s i some none (subst (Has older) is (shared-fronts older (closed_strings (take i ws)) (word ws i) (length s) old)) in
    record { inside = inside; above = ⊎_elim (λ above. above) (λ old. absurd (new old)) (cases_lt (shared_by ws i) (length s)); within = short }

-- the part of one word more
pub parts_more : (ws : List (List ℕ)) (parts : List Part) (k : ℕ) → length parts ≡ k → PartsOf ws parts → PartsOf ws (parts ++ (part_of ws k ∷ []))
parts_more ws parts k size before j d below = ⊎_elim
    (λ e. rw e (get_or_push parts (part_of ws k) d k size))
    (λ other. let lower : j < length parts = omega (arith, length_push parts (part_of ws k)) in get_or_append_left parts (part_of ws k ∷ []) d j lower ∙ before j d lower)
    (cases_eq j k)

-- word k makes a node of each front that is longer than what it shares
pub makes_from : (ws : List (List ℕ)) (p : Part) (k parent : ℕ) → p ≡ part_of ws k → k < length ws → p.shared ≤ parent → parent < length (word ws k) → Makes ws k (parent + 1)
makes_from ws p k parent is inside low high = let share = ap (λ (q : Part). q.shared) is in record { inside = inside; above = omega arith; within = omega arith }
