use Rattle.std.proofs.Common.{◌≡◌, ◌+◌, ◌≤◌, length, sym, refl, ap, ◌∙◌, subst, arith}
use Rattle.landmark.specs.Records.{put, as_two, body_of, item}
use Rattle.landmark.specs.declared.element.Element.{Element}
use Rattle.landmark.proofs.PutLaws.{put-put}
use Rattle.landmark.proofs.write.put_body.Goals as goal

pub returns-in-Gap : goal.returns-in-Gap
returns-in-Gap c =
    let b = c.args.buffer.now in
    let at = c.args.at in
    let fits : at ≤ length b = omega arith in
    subst (λ (e : Element). c.put_number-in-Gap-2.new.buffer ≡ put b at (body_of (item e))) (sym c.in-Gap.is)
    (c.put_number-in-Gap-2.ensures ∙ ap (λ l. put l (at + 2) (as_two c.in-Gap.gap.greatest)) c.put_number-in-Gap.ensures
    ∙ put-put b at (at + 2) (as_two c.in-Gap.gap.least) (as_two c.in-Gap.gap.greatest) fits refl)
