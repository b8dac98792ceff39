use Rattle.std.proofs.Common.{◌≡◌, ◌<◌, ℕ, List, [], ◌∷◌, length, Some, None, Ok, Err, sym, ap, subst, arith, ◌∙◌, refl}
use Rattle.landmark.specs.Judging.{Judges}
use Rattle.landmark.specs.Lists.{Row, fault, judged, parts_from}
use Rattle.landmark.specs.Readings.{readings_left}
use Rattle.landmark.specs.Records.{Reads, item}
use Rattle.landmark.specs.declared.refusal.Fault.{Fault}
use Rattle.landmark.proofs.ContentLaws.{stands}
use Rattle.landmark.proofs.ListLaws.{parts-at_end, parts-at_fault, judged-record}
use Rattle.landmark.proofs.ReadingLaws.{first_reading, none_left}
use Rattle.landmark.proofs.VerdictLaws.{accepted_exactly}
use Rattle.landmark.proofs.list.read_list.Goals as goal

-- a fault ends the judging
judged-fault : (l : List ℕ) (p : ℕ) (row : Row) (f : Fault) → p < length l → Reads l p (Err f) → judged (length l) row (parts_from l p) ≡ Err f
judged-fault l p row f h (is, at) = ap (judged (length l) row) (parts-at_fault l p _ h is) ∙ ap (λ d. Err (fault f.refusal d)) (sym at)

pub loop-read-init : goal.loop-read-init
loop-read-init c = (0, [], ap readings_left c.into_iter-read-iterator.ensures.into_iter_gives ∙ c.of-read-items.ensures.all, c.new-judge.ensures, refl)

pub take-requires : goal.take-requires
take-requires c =
    let l = c.args.list.now in
    let (p, row, left, h, verdict) = c.loop-read.invariant in
    let first = first_reading l p left c.in-Some.ensures.steps c.in_ok-read.was in
    (stands l p _ first.1.0).content.fit

pub loop-read-preserved : goal.loop-read-preserved
loop-read-preserved c =
    let l = c.args.list.now in
    let i = item c.in_ok-read.read.element in
    let (p, row, left, h, verdict) = c.loop-read.invariant in
    let first = first_reading l p left c.in-Some.ensures.steps c.in_ok-read.was in
    let taken : c.take.result ≡ Ok tt = grind arith in
    let took = subst (Judges _ i _) taken c.take.ensures row h in
    let step = judged-record l p i row None first.0 first.1.0 took.0 in
    (c.in_ok-read.read.next, i ∷ row, first.2, took.1, ap (λ p. judged (length l) (i ∷ row) (parts_from l p)) first.1.1 ∙ sym step ∙ verdict)

pub returns-in_err-map_err : goal.returns-in_err-map_err
returns-in_err-map_err c =
    let l = c.args.list.now in
    let (p, row, left, h, verdict) = c.loop-read.invariant in
    let first = first_reading l p left c.in-Some.ensures.steps c.in_ok-read.was in
    let refusal = c.in_err-map_err.field-0.0.refusal in
    let refused : c.take.result ≡ Err refusal = grind arith in
    let why = subst (Judges _ (item c.in_ok-read.read.element) _) refused c.take.ensures row h in
    let fault-is : c.from_residual-in_err-map_err.result ≡ Err (fault refusal c.in_ok-read.read.place) = grind arith in
    let is = fault-is ∙ ap (λ d. Err (fault refusal d)) first.1.2 ∙ sym (judged-record l p _ row (Some refusal) first.0 first.1.0 why) ∙ verdict in
    record { exact = is; law = accepted_exactly l _ (λ k. (c.type_inv.list k).fits) (sym is) }

pub returns-in_err-read : goal.returns-in_err-read
returns-in_err-read c =
    let l = c.args.list.now in
    let (p, row, left, h, verdict) = c.loop-read.invariant in
    let first = first_reading l p left c.in-Some.ensures.steps c.in_err-read.was in
    let fault-is : c.from_residual.result ≡ Err c.in_err-read.field-0.0 = grind arith in
    let is = fault-is ∙ sym (judged-fault l p row _ first.0 first.1) ∙ verdict in
    record { exact = is; law = accepted_exactly l _ (λ k. (c.type_inv.list k).fits) (sym is) }

pub returns : goal.returns
returns c =
    let l = c.args.list.now in
    let (p, row, left, h, verdict) = c.loop-read.invariant in
    let end = none_left l p (sym left ∙ c.in-None.ensures.steps.0) in
    let is = c.finish.ensures row h ∙ sym (ap (judged (length l) row) (parts-at_end l p end)) ∙ verdict in
    record { exact = is; law = accepted_exactly l _ (λ k. (c.type_inv.list k).fits) (sym is) }
