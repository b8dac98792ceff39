use Rattle.std.proofs.Common.{◌≡◌, ◌*◌, ◌%◌, ◌^◌, ◌<◌, [], length, sym, ap, ◌∙◌, arith}
use lib.Bits.{bit_or}
use Rattle.finder.specs.Words.{ends_with, word}
use Rattle.words.specs.Index.{indexed}
use Rattle.words.specs.Sizes.{indexed-few}
use Rattle.link.proofs.Beginning.{item_word, items_all}
use Rattle.link.proofs.Masking.{ends-test, mask-kept, mask-set}
use Rattle.link.proofs.expect.mask_of.Goals.{then-ends_with, else-ends_with}
use Rattle.link.proofs.expect.mask_of.Goals as goal

pub loop-j-preserved : goal.loop-j-preserved
loop-j-preserved c =
    let w = c.args.words.now in
    let ws = indexed w in
    let s = c.args.string.now in
    let j = c.loop-j.j in
    let all = items_all w _ c.as_slice-word-items.ensures in
    let inside : j < length ws = omega arith in
    let few : j < 64 = omega (arith, indexed-few w) in
    let is = item_word w _ c.as_slice-word-items.ensures j (record { ref_ptr = (0, 0); now = [] }) (omega arith) in
    let test : ends_with s (word ws j) ≡ c.ends_with.result = ap (ends_with s) (sym is) ∙ sym (ends-test s _ c.ends_with.result c.ends_with.ensures.value) in
    elim c.if-ends_with.branch [
      | then-ends_with w ↦ w.mask-is ∙ ap (λ m. bit_or m ((1 * 2 ^ j) % 2 ^ 64)) c.loop-j.invariant ∙ mask-set ws s j inside few (test ∙ w.if-ends_with.true)
      | else-ends_with w ↦ w.mask-is ∙ c.loop-j.invariant ∙ mask-kept ws s j inside (test ∙ w.if-ends_with.false)
    ]
