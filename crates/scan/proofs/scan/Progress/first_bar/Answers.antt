use Rattle.std.proofs.Common.{◌≡◌, ℕ, ◌<◌, ◌≤◌, true, false, MatchOption, rules, sym, ◌∙◌}
use Rattle.std.proofs.lemmas.Iterator.{first_from_Range}
use Rattle.plan.specs.Seats.{roles_of}
use Rattle.scan.proofs.Asking.{length-roles, room-ends}
use Rattle.scan.proofs.Bars.{barred, lowest_bar}
use Rattle.scan.proofs.scan.Progress.first_bar.Goals as goal

pub returns : goal.returns
returns c =
    let p = c.args.self.now.plan in
    let t = c.args.self.now.tracks in
    let rs = roles_of p in
    let es = t.ends in
    let n = c.landmarks.result in
    let found : MatchOption c.find.result ((k : ℕ) → 0 ≤ k → k < n → barred rs es k ≡ false) (λ i. (0 ≤ i) × (i < n) × (barred rs es i ≡ true) × ((k : ℕ) → 0 ≤ k → k < i → barred rs es k ≡ false)) =
    first_from_Range _ _ _ _ (λ k. barred rs es k ≡ true) (λ k. barred rs es k ≡ false) c.find.ensures.ran (λ k q is. search rules) (λ k q is. search rules) in
    lowest_bar rs es (room-ends p t) n (c.landmarks.ensures ∙ sym (length-roles p)) c.find.result found
