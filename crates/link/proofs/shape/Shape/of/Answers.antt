use Rattle.std.proofs.Common.{◌≡◌, suc, [], ◌∷◌, ◌++◌, length, sym, ap, ◌∙◌, subst, add-one, arith}
use Rattle.words.specs.Index.{indexed}
use Rattle.link.specs.Shape.{PartsOf, base_of, part_of}
use Rattle.link.proofs.Beginning.{item_word, items_all}
use Rattle.link.proofs.Making.{base_few, base_more, parts_more, shared-short}
use Rattle.link.proofs.shape.Shape.of.Goals as goal

pub overflow_sub-nodes : goal.overflow_sub-nodes
overflow_sub-nodes c = omega (arith, shared-short (indexed c.args.words.now) c.loop-k.k, ap length (item_word c.args.words.now _ c.as_slice-word-items.ensures c.loop-k.k (record { ref_ptr = (0, 0); now = [] }) c.loop-k-test.true))

pub overflow_add-nodes : goal.overflow_add-nodes
overflow_add-nodes c =
    let w = c.args.words.now in
    let k = c.loop-k.k in
    let all = items_all w _ c.as_slice-word-items.ensures in
    omega (arith, base_more (indexed w) k (omega arith), base_few w (suc k) (omega arith), ap length (item_word w _ c.as_slice-word-items.ensures k (record { ref_ptr = (0, 0); now = [] }) c.loop-k-test.true))

pub loop-k-preserved : goal.loop-k-preserved
loop-k-preserved c =
    let w = c.args.words.now in
    let ws = indexed w in
    let k = c.loop-k.k in
    let all = items_all w _ c.as_slice-word-items.ensures in
    let word = ap length (item_word w _ c.as_slice-word-items.ensures k (record { ref_ptr = (0, 0); now = [] }) c.loop-k-test.true) in
    let part : record { shared = c.shared_by-shared.result; base = c.loop-k.nodes } ≡ part_of ws k = cc in
    record {
      parts = subst (PartsOf ws) (sym (c.push.ensures.items ∙ ap (λ p. c.loop-k.parts.items ++ (p ∷ [])) part)) (parts_more ws c.loop-k.parts.items k c.loop-k.invariant.count c.loop-k.invariant.parts);
      count = omega arith;
      nodes = omega (arith, base_more ws k (omega arith), ap (base_of ws) (add-one k));
    }
