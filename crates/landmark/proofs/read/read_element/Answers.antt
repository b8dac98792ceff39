use Rattle.std.proofs.Common.{◌≡◌, Ok, Err, sym, refl, subst, arith}
use Rattle.landmark.specs.Records.{Gives, Reads}
use Rattle.landmark.proofs.RecordLaws.{item-read}
use Rattle.landmark.proofs.read.read_element.Goals as goal

pub returns : goal.returns
returns c =
    let body : c.read_body.result ≡ Ok c.in_ok-element.element = grind arith in
    (item-read c.args.list.now c.args.place c.number_at-size.result c.number_at-kind.result _ c.number_at-size.ensures c.number_at-kind.ensures (omega arith) (omega arith) (subst (Gives _) body c.read_body.ensures), omega arith, refl)

pub returns-in_err-element : goal.returns-in_err-element
returns-in_err-element c =
    let why = c.in_err-element.field-0.0.refusal in
    let body : c.read_body.result ≡ Err why = grind arith in
    let is : c.from_residual.result ≡ Err (record { refusal = why; detail = c.args.place }) = grind arith in
    subst (Reads c.args.list.now c.args.place) (sym is)
    (item-read c.args.list.now c.args.place c.number_at-size.result c.number_at-kind.result _ c.number_at-size.ensures c.number_at-kind.ensures (omega arith) (omega arith) (subst (Gives _) body c.read_body.ensures), refl)
