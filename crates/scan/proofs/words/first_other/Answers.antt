use Rattle.std.proofs.Common.{◌≡◌, [], List, nat_lt, ℕ, length, drop, sym, refl, ap, ◌∙◌, ⊎_elim, arith}
use Rattle.std.specs.Bool.{then_some}
use Rattle.std.proofs.lemmas.Bool.{false≢true, cases_lt, lt-ltb, le-ltb}
use Rattle.scan.specs.Rules.{first_other}
use Rattle.scan.proofs.Comparing.{none_left, other_left, other_word, same_word}
use Rattle.scan.proofs.words.first_other.Goals as goal

pub returns-then-not-has_word : goal.returns-then-not-has_word
returns-then-not-has_word g c =
    let vs = g.F.Finder.words c.args.finder.now in
    let k = c.loop-word.count in
    sym (c.loop-word.invariant.0 ∙ ap (first_other k (drop k vs)) c.in-Some.ensures.steps ∙ other_word vs k _ _ (λ has. false≢true (c.if-not-has_word.ensures.1 has)))

pub loop-word-preserved : goal.loop-word-preserved
loop-word-preserved g c =
    let vs = g.F.Finder.words c.args.finder.now in
    let k = c.loop-word.count in
    (c.loop-word.invariant.0 ∙ ap (first_other k (drop k vs)) c.in-Some.ensures.steps ∙ same_word vs k _ _ (c.if-not-has_word.ensures.0 refl), omega (arith, c.loop-word.invariant.1, ap (length {A = List ℕ}) c.in-Some.ensures.steps))

-- where the list has no word left, the finder may have one more
end_of : (vs : List (List ℕ)) (k : ℕ) → then_some (nat_lt k (length vs)) k ≡ first_other k (drop k vs) []
end_of vs k =
    ⊎_elim (λ below. ap (λ b. then_some b k) (lt-ltb k (length vs) below) ∙ sym (other_left vs k below))
    (λ past. ap (λ b. then_some b k) (le-ltb k (length vs) past) ∙ sym (none_left vs k past)) (cases_lt k (length vs))

pub returns : goal.returns
returns g c =
    let vs = g.F.Finder.words c.args.finder.now in
    let k = c.loop-word.count in
    c.then_some.ensures ∙ ap (λ n. then_some (nat_lt k n) k) c.count.ensures ∙ end_of vs k
    ∙ sym (c.loop-word.invariant.0 ∙ ap (first_other k (drop k vs)) c.in-None.ensures.steps.0)
