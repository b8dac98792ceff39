-- The laws of links, outputs and positions, by the words and the bytes alone.
use Rattle.std.proofs.Common.{◌≡◌, ℕ, ◌<◌, List, [], ◌∷◌, ◌++◌, length, take, drop, fold, sym, refl, ap, ◌∙◌, subst, ⊎_elim, arith}
use lib.Seq.{append_snoc}
use Rattle.std.specs.List.{ContainsAt as Has}
use Rattle.std.proofs.lemmas.List.{append-nil, length-append, take_at, take-append-drop}
use Rattle.std.proofs.ByRecursion.{has_get_or}
use Rattle.finder.specs.Words.{word}
use Rattle.nodes.specs.Nodes.{strings, string, number, longest, back_string, step}
use Rattle.nodes.specs.Tables.{Closed, Begins, LongestProper}
use Rattle.nodes.specs.Laws.{PrefixOfOne, FailureLaw, position, PositionLaw}
use Rattle.nodes.proofs.Strings.{has_string, number-below, string-number, string-one, string-some, rooted_strings, distinct_strings, closed_strings, has_root, has_front, strings-are}
use Rattle.nodes.proofs.Back.{longest-is, longest-push, back_is, string-back_link}
use Rattle.nodes.proofs.Meaning.{half_read-longest, suffix_mask-bit}

-- first bytes of a word are a prefix of it
prefix_begins : (ws : List (List ℕ)) (s : List ℕ) → Begins ws s → PrefixOfOne ws s
prefix_begins ws s (w, d, has, some, within, is) = (w, drop d w, has, sym (ap (λ v. v ++ drop d w) is ∙ take-append-drop d w))

-- where there is a word, a node's string is a prefix of one
prefix_has : (ws : List (List ℕ)) (s : List ℕ) → 0 < length ws → Has (strings ws) s → PrefixOfOne ws s
prefix_has ws s some has = ⊎_elim (λ is. (word ws 0, word ws 0, has_get_or ws 0 [] some, ap (λ v. v ++ word ws 0) (sym is))) (prefix_begins ws s) ((strings-are ws s).0 has)

-- and each prefix of a word is a node's string
has_prefix_of : (ws : List (List ℕ)) (s : List ℕ) → PrefixOfOne ws s → Has (strings ws) s
has_prefix_of ws s (w, rest, has, is) = subst (Has (strings ws)) (ap (take (length s)) is ∙ take_at s rest (length s) refl) (has_front ws w (length s) has (omega (arith, ap length is, length-append s rest)))

-- a node other than the root shows that there is a word
prefix_node : (ws : List (List ℕ)) (n : ℕ) → 0 < n → n < length (strings ws) → (0 < length (string (strings ws) n)) × PrefixOfOne ws (string (strings ws) n)
prefix_node ws n above within =
    let ss = strings ws in
    let some = string-some ss (rooted_strings ws) (distinct_strings ws) n above within in
    (some, ⊎_elim (λ is. absurd (omega (arith, ap length is))) (prefix_begins ws (string ss n)) ((strings-are ws (string ss n)).0 (has_string ss n within)))

-- there is a word where there is a prefix of one
some_word : (ws : List (List ℕ)) (s : List ℕ) → PrefixOfOne ws s → 0 < length ws
some_word ws s (w, rest, (k, within, at), is) = omega arith

-- the failure link of a node
failure_node : (ws : List (List ℕ)) (n : ℕ) → 0 < n → n < length (strings ws) → LongestProper (PrefixOfOne ws) (string (strings ws) n) (back_string (strings ws) (string (strings ws) n))
failure_node ws n above within =
    let (some, prefix) = prefix_node ws n above within in
    let is = back_is (strings ws) (has_root ws) (string (strings ws) n) some in
    record { passes = prefix_has ws _ (some_word ws _ prefix) is.passes; ends = is.ends; shorter = is.shorter; most = λ t passes. is.most t (has_prefix_of ws t passes) }

-- the law of failure links and outputs
pub failure_law : FailureLaw
failure_law ws =
    let ss = strings ws in
    record {
      root = (rooted_strings ws).first;
      prefix = prefix_node ws;
      node = λ s prefix. let has = has_prefix_of ws s prefix in (number ss s, number-below ss s has, string-number ss s has);
      one = string-one ss (distinct_strings ws);
      failure = λ n above within. rw (string-back_link ss (has_root ws) (string ss n)) (failure_node ws n above within);
      output = λ n k within. suffix_mask-bit ws (string ss n) k;
    }

-- steps from a longest suffix lead to the longest suffix
folded_longest : (ss : List (List ℕ)) → Closed ss → (u bytes : List ℕ) → fold (step ss) (longest ss u) bytes ≡ longest ss (u ++ bytes)
folded_longest ss closed u [] = ap (longest ss) (sym (append-nil u))
folded_longest ss closed u (b ∷ bytes) =
    ap (λ s. fold (step ss) s bytes) (longest-push ss closed u b) ∙ folded_longest ss closed (u ++ (b ∷ [])) bytes ∙ ap (longest ss) (append_snoc u b bytes)

-- so the position is the longest suffix of the bytes that is a node's string
pub position-is : (ws : List (List ℕ)) (bytes : List ℕ) → position ws bytes ≡ longest (strings ws) bytes
position-is ws bytes = folded_longest (strings ws) (closed_strings ws) [] bytes

-- the law of positions
pub position-law : PositionLaw
position-law ws bytes some =
    let is = longest-is (strings ws) (has_root ws) bytes in
    rw (position-is ws bytes) (record { passes = prefix_has ws _ some is.passes; ends = is.ends; most = λ t passes. is.most t (has_prefix_of ws t passes) }, half_read-longest ws bytes)
