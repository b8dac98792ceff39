use Rattle.std.proofs.Common.{◌≡◌, ℕ, ◌&&◌, sym, ap, ◌∙◌, subst, arith}
use lib.Bits.{bit_and, bit_or, or_zero_r}
use Rattle.words.specs.Index.{indexed}
use Rattle.words.specs.Sizes.{indexed-sized}
use Rattle.shift.specs.Register.{bit, lasts_of}
use Rattle.shift.specs.declared.shift.ShiftFinder.{ShiftFinder}
use Rattle.shift.proofs.Bits.{bit-and}
use Rattle.bits.specs.declared.SetBits.{SetBits}
use Rattle.shift.proofs.Clearing.{OnlyLasts, only_lasts, only_rest, cleared, word_small}
use Rattle.shift.proofs.Ending.{SomeBytes, ended, ended-none, ended-lasts, mask-ended}
use Rattle.shift.proofs.shift.ShiftFinder.ended.Goals as goal

-- no word of a finder is empty
words-some : (s : ShiftFinder) → SomeBytes (indexed s.words.index)
words-some s k within = (indexed-sized s.words.index k within).0

pub loop-place-init : goal.loop-place-init
loop-place-init c =
    let s = c.args.self.now in
    let bits = λ (q : ℕ). bit-and s.register s.edges.lasts q ∙ ap (λ (n : ℕ). bit s.register q && bit n q) s.marked.ends in
    subst (λ (left : SetBits). (ended 0 (indexed s.words.index) left.0 ≡ ended 0 (indexed s.words.index) s.register) × OnlyLasts s.edges.lasts left.0)
    (sym c.into_iter-place-iterator.ensures.into_iter_gives) (
      ended-lasts 0 (indexed s.words.index) _ s.register (words-some s) (λ q within. ap (λ (p : ℕ). bit (bit_and s.register s.edges.lasts) p) (omega arith) ∙ bits q ∙ ap (λ (p : ℕ). bit s.register p && bit (lasts_of (indexed s.words.index)) q) (omega arith)),
      only_lasts s.register s.edges.lasts,
    )

pub overflow_shl-found : goal.overflow_shl-found
overflow_shl-found c =
    let s = c.args.self.now in
    word_small (indexed s.words.index) s.edges.lasts c.loop-place.place-iterator.0 c.in-Some.place c.next.new.self.0 (words-some s) s.marked.ends c.loop-place.invariant.1 c.in-Some.ensures.steps

pub loop-place-preserved : goal.loop-place-preserved
loop-place-preserved c =
    let s = c.args.self.now in
    let ws = indexed s.words.index in
    let low = c.in-Some.ensures.steps in
    let inv = c.loop-place.invariant in (
      cleared ws s.edges.lasts c.loop-place.place-iterator.0 c.in-Some.place c.next.new.self.0 (words-some s) s.marked.ends inv.1 low c.loop-place.found ∙ inv.0,
      only_rest ws s.edges.lasts c.loop-place.place-iterator.0 c.in-Some.place c.next.new.self.0 (words-some s) s.marked.ends inv.1 low,
    )

pub returns : goal.returns
returns c =
    let s = c.args.self.now in
    let ws = indexed s.words.index in
    let found = c.loop-place.found in
    let none : ended 0 ws c.loop-place.place-iterator.0 ≡ 0 = ap (ended 0 ws) c.in-None.ensures.steps.0 ∙ ended-none 0 ws in
    sym (or_zero_r found) ∙ ap (bit_or found) (sym none) ∙ c.loop-place.invariant.0 ∙ sym (mask-ended 0 ws s.register (words-some s))
