use Rattle.std.proofs.Common.{◌≡◌, ℕ, ap, ◌∙◌, sym, subst, arith}
use Rattle.landmark.specs.Grammar.{items_of, landmarks_of}
use Rattle.landmark.specs.Lists.{ended, parts_from}
use Rattle.landmark.specs.Readings.{readings_left}
use Rattle.landmark.specs.Records.{item, after}
use Rattle.landmark.proofs.ListLaws.{parts-at_end, parts-at_fault, parts-at_record}
use Rattle.landmark.proofs.ReadingLaws.{first_reading, none_left}
use Rattle.landmark.proofs.VerdictLaws.{Complete, accepted_complete, accepted_together, complete_record}
use Rattle.plan.specs.Reading.{SoFar}
use Rattle.plan.proofs.ReadingLaws.{small, so_far_none, so_far_end}
use Rattle.plan.proofs.plan.Plan.read.Goals as goal

pub loop-read-init : goal.loop-read-init
loop-read-init c =
    let l = c.args.list.now in
    let accepted = c.in_ok-read_list.ensures in
    let good = accepted.law.0.well_formed in (
      0,
      ap readings_left c.into_iter-read-iterator.ensures.into_iter_gives ∙ c.of-read-items.ensures.all,
      so_far_none c.none-plan.result (items_of (parts_from l 0)) (landmarks_of l) c.none-plan.ensures good.each (accepted_together l _ (λ k. (c.type_inv.list k).fits) (sym accepted.exact)),
      accepted_complete l _ (sym accepted.exact),
    )

-- an accepted list has no fault
pub returns-in_err-read : goal.returns-in_err-read
returns-in_err-read c =
    let l = c.args.list.now in
    let (p, left, so_far, complete) = c.loop-read.invariant in
    let first = first_reading l p left c.in-Some.ensures.steps c.in_err-read.was in
    absurd (subst Complete (parts-at_fault l p _ first.0 first.1.0) complete)

pub loop-read-preserved : goal.loop-read-preserved
loop-read-preserved c =
    let l = c.args.list.now in
    let (p, left, so_far, complete) = c.loop-read.invariant in
    let first = first_reading l p left c.in-Some.ensures.steps c.in_ok-read.was in
    let i = item c.in_ok-read.field-0.element in
    let here = parts-at_record l p i first.0 first.1.0 in
    let ms = landmarks_of l in
    let before = subst (λ ps. SoFar c.loop-read.plan c.loop-read.front (items_of ps) ms) here so_far in
    let after-it = c.take-front.ensures (items_of (parts_from l (after l p))) ms (small ms c.in_ok-read_list.ensures.law.0.well_formed) before in (
      c.in_ok-read.field-0.next,
      first.2,
      subst (λ q. SoFar c.take-front.new.self c.take-front.result (items_of (parts_from l q)) ms) (sym first.1.1) after-it,
      subst (λ q. Complete (parts_from l q)) (sym first.1.1) (complete_record l p i first.1.0 complete),
    )

pub returns : goal.returns
returns c =
    let l = c.args.list.now in
    let (p, left, so_far, complete) = c.loop-read.invariant in
    let accepted = c.in_ok-read_list.ensures in
    let ms = landmarks_of l in
    let over : parts_from l p ≡ ended = parts-at_end l p (none_left l p (sym left ∙ c.in-None.ensures.steps.0)) in (
      λ f e. let z : ◌≡◌ {A = ℕ} 0 1 = cc accepted.exact in omega arith,
      so_far_end c.loop-read.plan c.loop-read.front ms (small ms accepted.law.0.well_formed) (subst (λ ps. SoFar c.loop-read.plan c.loop-read.front (items_of ps) ms) over so_far),
    )
