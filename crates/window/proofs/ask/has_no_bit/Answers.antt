use Rattle.std.proofs.Common.{◌≡◌, Decides, get_or, rules}
use Rattle.std.specs.Prelude.{EachIndex}
use Rattle.std.proofs.lemmas.Bool.Decides.{Decides-like}
use Rattle.window.proofs.Asking.{no_bit}
use Rattle.window.proofs.ask.has_no_bit.Goals as goal

pub returns : goal.returns
returns c =
    let zero : Decides c.all.result (EachIndex c.args.window.now (λ k. get_or c.args.window.now k 0 ≡ 0)) = search rules in
    let (there, back) = no_bit c.args.window.now c.fits-window c.told-window in
    Decides-like c.all.result there back zero
