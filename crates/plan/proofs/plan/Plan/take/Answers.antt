use Rattle.std.proofs.Common.{◌≡◌, ◌∷◌, List, Option, Some, length, sym, refl, ap, ◌∙◌, subst}
use Rattle.landmark.specs.Grammar.{Landmark, grouped, with_operator}
use Rattle.landmark.specs.Lists.{allowance, plus}
use Rattle.landmark.specs.Records.{Item, item}
use Rattle.landmark.specs.Spacings.{capped}
use Rattle.landmark.specs.declared.element.Element.{Element}
use Rattle.landmark.specs.declared.element.Element.TheVariants as E
use Rattle.landmark.specs.declared.spacing.Spacing.{Spacing}
use Rattle.occurrence.specs.Occurrence.{Gap as Gap-between}
use Rattle.plan.specs.Reading.{SoFar}
use Rattle.plan.specs.declared.plan.Plan.{Plan}
use Rattle.plan.specs.Rows.{Pushes}
use Rattle.plan.proofs.ReadingLaws.{so_far_start, so_far_run, so_far_wider}
use Rattle.plan.proofs.plan.Plan.take.Goals as goal

pub returns-in-Start : goal.returns-in-Start
returns-in-Start c is ms small f =
    so_far_start c.args.self.now _ c.in-Start.role c.args.front is ms small
    (subst (λ (e : Element). SoFar c.args.self.now c.args.front (item e ∷ is) ms) c.in-Start.is f) c.push.ensures refl

pub returns-in-Run : goal.returns-in-Run
returns-in-Run c is ms small f =
    let p = c.args.self.now in
    let q : Plan = record { roles = p.roles; spots = c.push-in-Run.new.self } in
    subst (λ (s : Spacing). SoFar q (Some s) is ms) (sym c.none.ensures)
    (so_far_run p q c.in-Run.bytes.now c.args.front is ms small
    (subst (λ (e : Element). SoFar p c.args.front (item e ∷ is) ms) c.in-Run.is f)
    (subst (λ n. Pushes p.spots (record { length = length c.in-Run.bytes.now; landmark = n; front = c.args.front }) q.spots) c.saturating_sub-landmark.ensures c.push-in-Run.ensures) refl)

-- an operator taken up behind a word, by the element that is taken and the front that there is
operated : (p : Plan) (e o : Element) (front : Option Spacing) (had next : Spacing) (is : List Item) (ms : List Landmark) → e ≡ o → front ≡ Some had
    → grouped (item o ∷ is) ≡ with_operator (item o) (grouped is) → ((g : Gap-between) → had ≡ capped g → next ≡ capped (plus g (allowance (item o))))
    → SoFar p front (item e ∷ is) ms → SoFar p (Some next) is ms
operated p e o front had next is ms same there groups sums f =
    so_far_wider p (item o) had next is ms groups sums (subst (λ x. SoFar p x (item o ∷ is) ms) there (subst (λ (x : Element). SoFar p front (item x ∷ is) ms) same f))

pub returns-in_ok-front-in-Gap : goal.returns-in_ok-front-in-Gap
returns-in_ok-front-in-Gap c is ms small f =
    let o = E.Gap c.in-Gap.field-0 in
    let more = c.allowance.ensures ∙ ap (λ e. capped (allowance (item e))) c.in-Gap.is in
    operated c.args.self.now c.args.element o c.args.front _ c.plus.result is ms c.in-Gap.is c.in_ok-front-in-Gap.was refl (λ g had. c.plus.ensures g (allowance (item o)) had more) f

pub returns-in_ok-front-in-Star : goal.returns-in_ok-front-in-Star
returns-in_ok-front-in-Star c is ms small f =
    operated c.args.self.now c.args.element E.Star c.args.front _ c.plus-in-Star.result is ms c.in-Star.is c.in_ok-front-in-Star.was refl
    (λ g had. c.plus-in-Star.ensures g (allowance (item E.Star)) had c.allowance-in-Star.ensures) f

pub returns-in_ok-front-in-Any : goal.returns-in_ok-front-in-Any
returns-in_ok-front-in-Any c is ms small f =
    operated c.args.self.now c.args.element E.Any c.args.front _ c.plus-in-Any.result is ms c.in-Any.is c.in_ok-front-in-Any.was refl
    (λ g had. c.plus-in-Any.ensures g (allowance (item E.Any)) had c.allowance-in-Any.ensures) f
