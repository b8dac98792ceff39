use Rattle.scan.proofs.Opening.{behind_length, length-refused, opened_anew, opened_refused, order_out}
use Rattle.scan.proofs.scan.Scan.open.Goals as goal
use Rattle.scan.proofs.scan.Scan.open.Goals.{then-announced-eq0-via-then-announced-eq0, then-announced-eq0-via-else-announced-eq0+then-announced-gt-MOST_ANNOUNCED}
use Rattle.scan.specs.Announced.{most_announced}
use Rattle.scan.specs.Rules.{words_line}
use Rattle.landmark.specs.Records.{or_else}
use Rattle.std.proofs.lemmas.Bool.Decides.{nat_tests}
use Rattle.std.proofs.Common.{◌≡◌, true, false, ◌||◌, eqb, ltb, None, sym, refl, ap, ◌∙◌, arith}

pub returns-in-Some : goal.returns-in-Some
returns-in-Some g c =
    rw c.at.ensures (opened_refused g.F.Finder c.args.self.now c.args.list.now c.args.announced _ _ refl
    (order_out (g.F.Finder.words c.args.self.now.finder) c.args.self.now.out c.args.list.now c.args.announced c.in_ok-plan.ensures.0 c.in-Some.out c.in-Some.is))

pub returns-then-announced-eq0 : goal.returns-then-announced-eq0
returns-then-announced-eq0 g c =
    let n = c.args.announced in
    let bad : (eqb n 0 || ltb most_announced n) ≡ true = elim c.then-announced-eq0.branch [ then-announced-eq0-via-then-announced-eq0 w ↦ grind (arith, nat_tests, w.if-announced-eq0.true) | then-announced-eq0-via-else-announced-eq0+then-announced-gt-MOST_ANNOUNCED w ↦ grind (arith, nat_tests, w.if-announced-gt-MOST_ANNOUNCED.true) ] in
    rw c.at-then-announced-eq0.ensures (opened_refused g.F.Finder c.args.self.now c.args.list.now n _ _ refl
    (length-refused (g.F.Finder.words c.args.self.now.finder) c.args.self.now.out c.args.list.now n c.in_ok-plan.ensures.0 c.in_default.is bad))

pub returns-in-Some-first_other : goal.returns-in-Some-first_other
returns-in-Some-first_other g c =
    let n = c.args.announced in
    let good : (eqb n 0 || ltb most_announced n) ≡ false = grind (arith, nat_tests) in
    rw c.at-in-Some-first_other.ensures (opened_refused g.F.Finder c.args.self.now c.args.list.now n _ _ refl
    (behind_length (g.F.Finder.words c.args.self.now.finder) c.args.self.now.out c.args.list.now n c.in_ok-plan.ensures.0 c.in_default.is c.first_other.result good c.first_other.ensures ∙ ap (λ o. or_else (words_line o) None) c.in-Some-first_other.is))

pub returns : goal.returns
returns g c =
    let n = c.args.announced in
    let fit : (eqb n 0 || ltb most_announced n) ≡ false = grind (arith, nat_tests) in
    opened_anew g.F.Finder c.args.self.now c.args.list.now n _ _ refl
    (λ k. (c.type_inv.list k).fits) c.in_ok-plan.ensures.0 c.in_ok-plan.ensures.1 c.in_default.is fit (sym c.first_other.ensures ∙ c.in_default-first_other.is) c.rest.ensures c.new.ensures refl refl refl
