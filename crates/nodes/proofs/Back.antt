-- Back links and steps: the longest suffix that is a node's string.
use Rattle.std.proofs.Common.{◌≡◌, ℕ, ◌<◌, List, [], ◌∷◌, ◌++◌, length, sym, refl, ap, ◌∙◌, subst, ⊎_elim, arith}
use Rattle.std.specs.List.{ContainsAt as Has}
use Rattle.std.proofs.lemmas.Bool.{cond_both, cond-true, cond-false}
use Rattle.std.proofs.lemmas.Bool.Decides.{not_from_Decides}
use Rattle.finder.specs.Meaning.{EndsWith}
use Rattle.nodes.specs.Nodes.{among, string, back_link, parent, last_byte, longest, back_string, step}
use Rattle.nodes.specs.Tables.{Closed, Longest, LongestProper}
use Rattle.nodes.proofs.Suffixes.{ends-itself, ends-nothing, ends-trans, ends-short, ends-both, ends-cons, ends-rest, ends-push, ends-unpush, cases_last}
use Rattle.nodes.proofs.Strings.{decides_among, among_none, number-below, string-number}

-- there is only one longest suffix that passes
pub longest-only : (P : List ℕ → Type 0) (u r q : List ℕ) → Longest P u r → Longest P u q → r ≡ q
longest-only P u r q this other = ends-both r q (this.most q other.passes other.ends) (other.most r this.passes this.ends)

-- a string that passes is its own longest
pub longest-whole : (P : List ℕ → Type 0) (u : List ℕ) → P u → Longest P u u
longest-whole P u is = record { passes = is; ends = ends-itself u; most = λ t passes ends. ends }

-- one that does not has the longest of what follows its first byte
longest-behind : (P : List ℕ → Type 0) (b : ℕ) (u r : List ℕ) → (P (b ∷ u) → ⊥) → Longest P u r → Longest P (b ∷ u) r
longest-behind P b u r not rest = record { passes = rest.passes; ends = ends-rest b u r rest.ends; most = λ t passes ends. ⊎_elim (λ e. absurd (not (subst P (sym e) passes))) (rest.most t passes) (ends-cons b u t ends) }

-- `longest` gives the longest suffix that is a node's string
pub longest-is : (ss : List (List ℕ)) → Has ss [] → (u : List ℕ) → Longest (Has ss) u (longest ss u)
longest-is ss root [] = longest-whole (Has ss) [] root
longest-is ss root (b ∷ u) =
    let test = decides_among ss (b ∷ u) in
    cond_both (among ss (b ∷ u)) (b ∷ u) (longest ss u) (Longest (Has ss) (b ∷ u)) (λ e. longest-whole (Has ss) (b ∷ u) (test.0 e)) (λ e. longest-behind (Has ss) b u _ (not_from_Decides _ test e) (longest-is ss root u))

-- and of a node's string that string
pub longest-of : (ss : List (List ℕ)) (s : List ℕ) → Has ss s → longest ss s ≡ s
longest-of ss [] has = refl
longest-of ss (b ∷ s) has = cond-true _ _ _ ((decides_among ss (b ∷ s)).1 has)

-- where the whole is no node's string, the longest is that of what follows the first byte
pub longest-rest : (ss : List (List ℕ)) (b : ℕ) (s : List ℕ) → (Has ss (b ∷ s) → ⊥) → longest ss (b ∷ s) ≡ longest ss s
longest-rest ss b s not = cond-false _ _ _ (among_none ss (b ∷ s) not)

-- a longest suffix is enough to go on from: with one more byte it leads where the whole does
pub longest-push : (ss : List (List ℕ)) → Closed ss → (u : List ℕ) (b : ℕ) → longest ss (longest ss u ++ (b ∷ [])) ≡ longest ss (u ++ (b ∷ []))
longest-push ss closed u b = longest-only (Has ss) (u ++ (b ∷ [])) _ _ goes_on (longest-is ss closed.root (u ++ (b ∷ [])))
  where
    r : List ℕ
    r = longest ss u

    before : Longest (Has ss) u r
    before = longest-is ss closed.root u

    after : Longest (Has ss) (r ++ (b ∷ [])) (longest ss (r ++ (b ∷ [])))
    after = longest-is ss closed.root (r ++ (b ∷ []))

    ends_so : (t : List ℕ) → Has ss t → EndsWith (u ++ (b ∷ [])) t → t ≡ parent t ++ (last_byte t ∷ []) → EndsWith (r ++ (b ∷ [])) t
    ends_so t has ends is =
        let (short, last) = ends-unpush u (parent t) b (last_byte t) (subst (EndsWith (u ++ (b ∷ []))) is ends) in
        let inside = before.most (parent t) (closed.shorter (parent t) (last_byte t) (subst (Has ss) is has)) short in
        subst (EndsWith (r ++ (b ∷ []))) (ap (λ c. parent t ++ (c ∷ [])) last ∙ sym is) (ends-push r (parent t) b inside)

    goes_on : Longest (Has ss) (u ++ (b ∷ [])) (longest ss (r ++ (b ∷ [])))
    goes_on = record { passes = after.passes; ends = ends-trans _ _ _ (ends-push u r b before.ends) after.ends; most = λ t has ends. ⊎_elim (λ e. subst (EndsWith _) (sym e) (ends-nothing _)) (λ e. after.most t has (ends_so t has ends e)) (cases_last t) }

-- the back link of a string of some bytes: the longest of its shorter suffixes
pub back_is : (ss : List (List ℕ)) → Has ss [] → (s : List ℕ) → 0 < length s → LongestProper (Has ss) s (back_string ss s)
back_is ss root [] some = absurd (omega arith)
back_is ss root (b ∷ s) some =
    let rest = longest-is ss root s in
    let short = ends-short s _ rest.ends in
    record { passes = rest.passes; ends = ends-rest b s _ rest.ends; shorter = omega arith; most = λ t has ends shorter. ⊎_elim (λ e. absurd (omega (arith, ap length e))) (rest.most t has) (ends-cons b s t ends) }

-- the back link of any string is a node's
pub has_back : (ss : List (List ℕ)) → Has ss [] → (s : List ℕ) → Has ss (back_string ss s)
has_back ss root [] = root
has_back ss root (b ∷ s) = (longest-is ss root s).passes

-- its number is below the count
pub back_link-below : (ss : List (List ℕ)) → Has ss [] → (s : List ℕ) → back_link ss s < length ss
back_link-below ss root s = number-below ss _ (has_back ss root s)

-- and leads to it
pub string-back_link : (ss : List (List ℕ)) → Has ss [] → (s : List ℕ) → string ss (back_link ss s) ≡ back_string ss s
string-back_link ss root s = string-number ss _ (has_back ss root s)

-- a step to a child
pub step-child : (ss : List (List ℕ)) (s : List ℕ) (b : ℕ) → Has ss (s ++ (b ∷ [])) → step ss s b ≡ s ++ (b ∷ [])
step-child ss s b has = longest-of ss (s ++ (b ∷ [])) has

-- a step from the root with no child stays there
pub step-root : (ss : List (List ℕ)) (b : ℕ) → (Has ss (b ∷ []) → ⊥) → step ss [] b ≡ []
step-root ss b not = longest-rest ss b [] not

-- a step from any other node with no child is that from its back link
pub step_back : (ss : List (List ℕ)) → Closed ss → (s : List ℕ) (b : ℕ) → 0 < length s → (Has ss (s ++ (b ∷ [])) → ⊥) → step ss s b ≡ step ss (back_string ss s) b
step_back ss closed [] b some not = absurd (omega arith)
step_back ss closed (c ∷ s) b some not = longest-rest ss c (s ++ (b ∷ [])) not ∙ sym (longest-push ss closed s b)

-- the back link of a child is where the byte leads from the back link
pub back_child : (ss : List (List ℕ)) → Closed ss → (s : List ℕ) (b : ℕ) → 0 < length s → back_string ss (s ++ (b ∷ [])) ≡ step ss (back_string ss s) b
back_child ss closed [] b some = absurd (omega arith)
back_child ss closed (c ∷ s) b some = sym (longest-push ss closed s b)

-- that of a child of the root is the root
pub back_first : (ss : List (List ℕ)) (b : ℕ) → back_string ss (b ∷ []) ≡ []
back_first ss b = refl
