use Rattle.std.proofs.Common.{◌≡◌, sym, ap, ◌∙◌, subst, rules}
use Rattle.std.proofs.lemmas.Bool.Decides.{not_from_Decides}
use Rattle.track.specs.Telling.{Reaches, rear_by_front, rear_by_next}
use Rattle.track.proofs.Taking.{word-absent, word-passed, word-reached}
use Rattle.track.proofs.tracks.Tracks.take_word.Goals as goal

pub returns-then-is_reached : goal.returns-then-is_reached
returns-then-is_reached c =
    let t = c.args.self.now in
    let k = c.args.word in
    let spot = c.in-Some.spot in
    let behind : rear_by_front c.and_then-behind.result ≡ rear_by_next c.spot-then-is_reached.result = search rules in
    let same = behind ∙ ap rear_by_next c.spot-then-is_reached.ensures in
    let kept = subst (λ r. Reaches r t k spot.landmark c.args.end c.reach.new.self) same c.reach.ensures in
    word-reached c.args.plan.now t k c.args.end spot (sym c.in-Some.ensures) c.reach.new.self (c.is_reached.ensures.0 c.if-is_reached.true) kept

pub returns-else-is_reached : goal.returns-else-is_reached
returns-else-is_reached c =
    word-passed c.args.plan.now c.args.self.now c.args.word c.args.end c.in-Some.spot (sym c.in-Some.ensures)
    (not_from_Decides c.is_reached.result c.is_reached.ensures c.if-is_reached.false)

pub returns-in_default : goal.returns-in_default
returns-in_default c = word-absent c.args.plan.now c.args.self.now c.args.word c.args.end (sym c.in_default.ensures)
