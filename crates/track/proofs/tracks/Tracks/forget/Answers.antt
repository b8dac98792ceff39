use Rattle.std.proofs.Common.{◌-◌, ◌^◌, refl, ap}
use lib.Bits.{bit_and}
use Rattle.std.proofs.lemmas.Nat.{one_shl}
use Rattle.track.proofs.Forgetting.{active_fewer, active_kept, forgetting_more}
use Rattle.track.proofs.tracks.Tracks.forget.Goals as goal

pub loop-word-preserved-then-is_empty : goal.loop-word-preserved-then-is_empty
loop-word-preserved-then-is_empty c =
    let t = c.loop-word.self in
    let p = c.in-Some.word in
    let low = c.in-Some.ensures.steps in
    let cleared = ap (λ b. bit_and t.active (2 ^ 64 - 1 - b)) (one_shl p 64 low.place) in
    forgetting_more c.args.self.now c.args.end c.loop-word.word-iterator.0 p c.next.new.self.0 t _ low refl refl c.mark.ensures
    (active_fewer t.active p _ c.mark.new.self.numbers low.place cleared (c.is_empty.ensures.0 c.if-is_empty.true)) c.loop-word.invariant

pub loop-word-preserved : goal.loop-word-preserved
loop-word-preserved c =
    let t = c.loop-word.self in
    let p = c.in-Some.word in
    forgetting_more c.args.self.now c.args.end c.loop-word.word-iterator.0 p c.next.new.self.0 t _ c.in-Some.ensures.steps refl refl c.mark.ensures
    (active_kept t.active p c.mark.new.self.numbers) c.loop-word.invariant
