use Rattle.std.proofs.Common.{inl, inr, ⊎_elim}
use Rattle.std.proofs.lemmas.Bool.Decides.{Decides-like, not_from_Decides}
use Rattle.window.proofs.Asking.{around_all, around_straight, around_end}
use Rattle.window.proofs.ask.any_around.Goals as goal

pub returns-then-high-low : goal.returns-then-high-low
returns-then-high-low c =
    let (there, back) = around_all c.args.window.now c.args.low c.args.high c.requires c.if-high-low.true in
    Decides-like c.any_in.result there back c.any_in.ensures

pub returns-then-first-last : goal.returns-then-first-last
returns-then-first-last c =
    let (there, back) = around_straight c.args.window.now c.args.low c.args.high c.requires c.if-high-low.false c.if-first-last.true in
    Decides-like c.any_in-then-first-last.result there back c.any_in-then-first-last.ensures

pub returns-then-any_in : goal.returns-then-any_in
returns-then-any_in c =
    let (there, back) = around_end c.args.window.now c.args.low c.args.high c.requires c.if-high-low.false c.if-first-last.false in
    (λ told. there (inl (c.any_in-else-first-last.ensures.0 told)), λ _. c.if-any_in.true)

pub returns-else-any_in : goal.returns-else-any_in
returns-else-any_in c =
    let (there, back) = around_end c.args.window.now c.args.low c.args.high c.requires c.if-high-low.false c.if-first-last.false in (
      λ told. there (inr (c.any_in-else-any_in.ensures.0 told)),
      λ some. ⊎_elim
          (λ one. absurd (not_from_Decides c.any_in-else-first-last.result c.any_in-else-first-last.ensures c.if-any_in.false one))
          c.any_in-else-any_in.ensures.1 (back some),
    )
