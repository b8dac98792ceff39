-- Worked examples, as one list of statements about the definitions.
use Rattle.std.specs.Prelude.{◌≡◌, ℕ, List, [], ◌∷◌, ◌++◌, map, replicate, Some, None, Ok, Err, codes}
use Rattle.occurrence.specs.Occurrence.{Pattern, last, IsEnd}
use Rattle.finder.specs.Words.{half_read, mask}
use Rattle.nodes.specs.Nodes.{back_link, strings, suffix_mask}
use Rattle.shift.specs.Table as S
use Rattle.landmark.specs.Records.{Item, gap, star}
use Rattle.landmark.specs.Lists.{list_verdict, fault}
use Rattle.landmark.specs.Grammar.{Landmark, landmarks_of, list_bytes, pattern_of}
use Rattle.landmark.specs.declared.element.Role.TheVariants.{Entry}
use Rattle.landmark.specs.declared.refusal.Refusal.TheVariants.{CutRecord, Misplaced, GapTooWide}

-- a landmark of two words with operators between them, as a list of its own
abbrev pub two_words : List ℕ → List Item → List ℕ → List ℕ
two_words w ops v =
    list_bytes (record { role = Entry; steps = record { operators = []; word = w } ∷ record { operators = ops; word = v } ∷ [] } ∷ [])

-- the list of ab{1,2}cd, byte by byte
abbrev pub ab_cd : List ℕ
ab_cd = 4 ∷ 0 ∷ 1 ∷ 0 ∷ 1 ∷ 0 ∷ 4 ∷ 0 ∷ 2 ∷ 0 ∷ 97 ∷ 98 ∷ 6 ∷ 0 ∷ 3 ∷ 0 ∷ 1 ∷ 0 ∷ 2 ∷ 0 ∷ 4 ∷ 0 ∷ 2 ∷ 0 ∷ 99 ∷ 100 ∷ []

-- the list of aa*a
abbrev pub aa_a : List ℕ
aa_a = two_words (codes "aa") (star ∷ []) (codes "a")

-- a list whose two words are behind two fixed gaps
abbrev pub two_gaps : ℕ → ℕ → List ℕ
two_gaps m n = two_words (codes "a") (gap m m ∷ gap n n ∷ []) (codes "b")

abbrev pub first_pattern : List Landmark → Pattern
first_pattern [] = last []
first_pattern (m ∷ ms) = pattern_of m

abbrev pub pattern : List ℕ → Pattern
pattern l = first_pattern (landmarks_of l)

-- the words ab, bab, b, and what a finder of them answers at the last of some bytes
abbrev pub three : List (List ℕ)
three = codes "ab" ∷ codes "bab" ∷ codes "b" ∷ []

abbrev pub answer : List ℕ → ℕ
answer bytes = mask three (half_read three bytes)

pub record Samples : Type 0 where
  pub written_out : ab_cd ≡ two_words (codes "ab") (gap 1 2 ∷ []) (codes "cd")
  pub counts : list_verdict ab_cd ≡ Ok (record { landmarks = 1; words = 2; run_bytes = 4 })
  pub abxcd : IsEnd (pattern ab_cd) (codes "abxcd") (Some 5)
  pub abcd : IsEnd (pattern ab_cd) (codes "abcd") None
  pub abxxxcd : IsEnd (pattern ab_cd) (codes "abxxxcd") None
  pub ababxcd : IsEnd (pattern ab_cd) (codes "ababxcd") (Some 7)
  pub ababcd : IsEnd (pattern ab_cd) (codes "ababcd") (Some 6)
  pub aaa : IsEnd (pattern aa_a) (codes "aaa") (Some 3)
  pub aa : IsEnd (pattern aa_a) (codes "aa") None
  pub empty_list : list_verdict [] ≡ Err (fault Misplaced 0)
  pub one_byte : list_verdict (4 ∷ []) ≡ Err (fault CutRecord 0)
  pub start_alone : list_verdict (4 ∷ 0 ∷ 1 ∷ 0 ∷ 1 ∷ 0 ∷ []) ≡ Err (fault Misplaced 6)
  pub widest_gaps : list_verdict (two_gaps 200 55) ≡ Ok (record { landmarks = 1; words = 2; run_bytes = 2 })
  pub wider_gaps : list_verdict (two_gaps 200 56) ≡ Err (fault GapTooWide 27)
  pub answers : map answer (codes "a" ∷ codes "ab" ∷ codes "aba" ∷ codes "abab" ∷ []) ≡ 0 ∷ 5 ∷ 0 ∷ 7 ∷ []
  pub shift_numbers : S.table_of (codes "ab" ∷ codes "b" ∷ []) ≡ replicate 97 0 ++ (1 ∷ 6 ∷ replicate 157 0)
  pub back_links : map (back_link (strings three)) (strings three) ≡ 0 ∷ 0 ∷ 3 ∷ 0 ∷ 1 ∷ 2 ∷ []
  pub masks : map (suffix_mask three) (strings three) ≡ 0 ∷ 0 ∷ 5 ∷ 4 ∷ 0 ∷ 7 ∷ []
