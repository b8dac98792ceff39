use Rattle.std.proofs.Common.{◌≡◌, ◌+◌, ◌≤◌, ◌++◌, length, None, Ok, sym, refl, ap, ◌∙◌, subst, arith}
use Rattle.std.proofs.lemmas.Bool.Decides.{nat_tests}
use Rattle.landmark.specs.Records.{put, as_two, body_of, kind_of, encoding, item, item_at, after, write_refusal}
use Rattle.landmark.specs.Written.{Sized}
use Rattle.landmark.proofs.PutLaws.{put-put}
use Rattle.landmark.proofs.RecordLaws.{put_reads}
use Rattle.landmark.proofs.write.write_element.Goals as goal

pub returns : goal.returns
returns c =
    let b = c.args.buffer.now in
    let p = c.args.place in
    let i = item c.args.element in
    let body : c.body_size.result ≡ Ok c.in_ok-size.size = grind arith in
    let sized = subst (Sized i) body c.body_size.ensures in
    let size : c.in_ok-size.size ≡ length (body_of i) = sized.1 in
    let start : p ≤ length b = omega arith in
    let fits : p + length (encoding i) ≤ length b = omega arith in
    let first : c.put_number.new.buffer ≡ put b p (as_two (2 + length (body_of i))) = c.put_number.ensures ∙ ap (λ n. put b p (as_two (2 + n))) size in
    let second : c.put_number-2.new.buffer ≡ put b p (as_two (2 + length (body_of i)) ++ as_two (kind_of i)) =
    c.put_number-2.ensures ∙ ap (λ n. put c.put_number.new.buffer (p + 2) (as_two n)) (c.number.ensures ∙ c.kind.ensures)
    ∙ ap (λ l. put l (p + 2) (as_two (kind_of i))) first ∙ put-put b p (p + 2) (as_two (2 + length (body_of i))) (as_two (kind_of i)) start refl in
    let whole : c.put_body.new.buffer ≡ put b p (encoding i) =
    c.put_body.ensures ∙ ap (λ l. put l (p + 4) (body_of i)) second
    ∙ put-put b p (p + 4) (as_two (2 + length (body_of i)) ++ as_two (kind_of i)) (body_of i) start refl in
    let reads = put_reads b p i start sized.0 in
    let next : p + 4 + c.in_ok-size.size ≡ p + length (encoding i) = omega arith in
    let free : write_refusal b p i ≡ None = simp sized.0 (grind (arith, nat_tests)) in
    (free, next, whole, ap (λ l. item_at l p) whole ∙ reads.0, ap (λ l. after l p) whole ∙ reads.1 ∙ sym next)
