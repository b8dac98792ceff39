use Rattle.std.proofs.Common.{rules, ◌≡◌, ℕ, ◌<◌, true, eqb, length, get_or, take, None, sym, ap, ◌∙◌, arith}
use Rattle.std.proofs.iter.runs.Sources.{ranges, range_runs}
use Rattle.std.proofs.lemmas.Bool.{false≢true}
use Rattle.std.specs.Option.{option_eq}
use Rattle.plan.specs.Seats.{roles_of}
use Rattle.scan.specs.Calls.{ends_of}
use Rattle.scan.proofs.Agreeing.{Decides-option_eq, ends_same, same-end_at, same_landmarks}
use Rattle.scan.proofs.Asking.{length-roles, room-ends}
use Rattle.scan.proofs.scan.Progress.is_like.Goals as goal
use Rattle.scan.proofs.scan.Progress.is_like.Goals.{then-count-landmarks-via-then-count-landmarks, then-count-landmarks-via-else-count-landmarks+then-self-other}

pub returns-then-count-landmarks : goal.returns-then-count-landmarks
returns-then-count-landmarks c = (
  λ no. absurd (false≢true no),
  λ (taken, ends).
      let p = c.args.self.now in
      let q = c.args.other.now in
      absurd (elim c.then-count-landmarks.branch [
        | then-count-landmarks-via-then-count-landmarks w ↦ w.if-count-landmarks.true (c.landmarks-count.ensures ∙ sym (length-roles p.plan) ∙ same_landmarks p q ends ∙ length-roles q.plan ∙ sym c.landmarks.ensures)
        | then-count-landmarks-via-else-count-landmarks+then-self-other w ↦ w.if-self-other.true taken
      ]),
)

pub returns : goal.returns
returns c =
    let p = c.args.self.now in
    let q = c.args.other.now in
    let n : ℕ = length (roles_of p.plan) in
    let size = length-roles p.plan in
    let size' = length-roles q.plan in
    let same : n ≡ length (roles_of q.plan) = omega arith in
    let room = room-ends p.plan p.tracks in
    let room' = room-ends q.plan q.tracks in
    let run = c.all.ensures.runs.0 in
    let ends : ends_of q.plan q.tracks ≡ take n q.tracks.ends = ap (λ (m : ℕ). take m q.tracks.ends) (sym same) in (
      λ yes. (c.if-self-other.false, ends_same p.tracks q.tracks n (omega arith) (λ k below. let at = (range_runs run run.seen).3 k in (Decides-option_eq (get_or p.tracks.ends k None) (get_or q.tracks.ends k None)).0 (search (rules, ranges, at))) ∙ sym ends),
      λ (taken, alike).
          let each : (k : ℕ) → k < n → option_eq eqb (get_or p.tracks.ends k None) (get_or q.tracks.ends k None) ≡ true = λ k below. (Decides-option_eq _ _).1 (same-end_at p.tracks q.tracks n (omega arith) k below (alike ∙ ends)) in
          search (rules, ranges),
    )
