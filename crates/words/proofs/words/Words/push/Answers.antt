use Rattle.std.proofs.Common.{rules, ℕ, ◌*◌, ◌≤◌, List, [], map, length, get_or, sym, ap, ◌∙◌, subst, arith, Bor}
use Rattle.std.proofs.lemmas.List.{length-append, map-append}
use Rattle.landmark.specs.Grammar.{sizes}
use Rattle.words.specs.RunSized.{RunSized}
use Rattle.words.specs.Index.{indexed, slices}
use Rattle.words.specs.Sizes.{indexed-few, indexed-sized, length-indexed}
use Rattle.words.specs.declared.words.Words.{Words}
use Rattle.words.proofs.Placing.{sized-more, sizes-append, sizes-most}
use Rattle.words.proofs.words.Words.push.Goals as goal

-- an index has few run bytes
few_bytes : (w : Words) → w.run_bytes ≤ 64 * 64
few_bytes w =
    let most = sizes-most 64 (indexed w) (λ k within. (indexed-sized w k within).1) in
    omega (arith, w.total, indexed-few w)

pub overflow_add-self : goal.overflow_add-self
overflow_add-self c = let few = few_bytes c.args.self.now in let sized = c.requires.sized in search rules

pub invariant_of-self : goal.invariant_of-self
invariant_of-self c =
    let w = c.args.self.now in
    let items = c.push.ensures.items in
    let more = ap (map (λ (s : Bor (List ℕ)). s.now)) items ∙ map-append (λ (s : Bor (List ℕ)). s.now) (slices w) _ in
    let size = ap length items ∙ length-append (slices w) _ in
    let sum = ap sizes more ∙ sizes-append (indexed w) _ in
    let sized = c.requires.sized in
    record {
      few = omega (arith, size, c.requires.room);
      sized = λ k within. subst (λ ws. RunSized (get_or ws k [])) (sym more) (sized-more (indexed w) _ (indexed-sized w) (search rules) k (omega (arith, size, length-indexed w)));
      total = omega (arith, w.total, sum);
    }
