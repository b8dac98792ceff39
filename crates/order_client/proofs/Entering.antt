-- Carrying out an order that was just issued.
use Rattle.std.proofs.Common.{◌≡◌, ℕ, Bool, true, not, Some, None, Ok, Err, Result, IsOk, sym, refl, ap, ◌∙◌, subst, arith}
use Rattle.std.specs.Result.{is_ok}
use Rattle.std.proofs.lemmas.Bool.Decides.{nat_tests}
use Rattle.finder.specs.declared.finder.Finder.{Ghosts}
use Rattle.landmark.specs.declared.refusal.Fault.{Fault}
use Rattle.landmark.specs.declared.refusal.Refusal.TheVariants.{OtherOrder}
use Rattle.scan.specs.Rules.{Line, line, refusal, end_at, issue_refusal, settle_refusal, same_numbers}
use Rattle.scan.specs.Calls.{Upon, Settled, Issued, CarriedOut, own_facts, with_out}
use Rattle.scan.proofs.Asking.{answered}
use Rattle.scan.proofs.Standing.{upon_refusal}
use Rattle.scan.specs.declared.order.Numbers.{Numbers}
use Rattle.scan.specs.declared.order.Order.{Order}
use Rattle.scan.specs.declared.order.Returned.{Returned}
use Rattle.scan.specs.declared.scan.Scan.{Scan}
use Rattle.order_client.specs.Entering.{Entered}

-- an order is the one that is out where that has its numbers
own_order : (n : Numbers) → settle_refusal (Some n) n ≡ None
own_order n = let same : same_numbers (Some n) n ≡ true = grind (arith, nat_tests) in ap (λ (b : Bool). line (not b) OtherOrder n.entry) same

module _ {F : Type 0} (finder : Ghosts F) (s t : Scan F) (k : ℕ) (r : Result Order Fault) (issued : Issued finder s k r t) where
  -- what issuing says of an order
  abbrev Told : Order → Type 0
  Told o = (o.numbers.landmark ≡ k) × (end_at (own_facts s) k ≡ Some o.numbers.entry) × (t ≡ with_out (Some o.numbers) s)

  line-is : issue_refusal s.out (own_facts s) k ≡ refusal r
  line-is = sym (upon_refusal _ r _ s t issued.always)

  -- a refusal is passed on
  pub refused : (f : Fault) → r ≡ Err f → Entered s k (Err f) t
  refused f is =
      let why = line-is ∙ ap refusal is in
      let kept = (subst (λ (l : Line). Upon l r Told s t) why issued.always).1 in
      subst (λ (l : Line). Upon l (Err f) (λ e. (end_at (own_facts s) k ≡ Some e) × (t ≡ with_out None s)) s t) (sym why) (refl, kept)

  module _ (u : Scan F) (o : Order) (q : Result ℕ Returned) (is : r ≡ Ok o) (carried : CarriedOut finder t o q u) where
    free : issue_refusal s.out (own_facts s) k ≡ None
    free = line-is ∙ ap refusal is

    told : Told o
    told = subst (λ (x : Result Order Fault). Upon None x Told s t) is (subst (λ (l : Line). Upon l r Told s t) free issued.always)

    -- so carrying the order out answers its entry, and spends it
    pub settled : (q ≡ Ok o.numbers.entry) × (u ≡ with_out None t)
    settled =
        let own : settle_refusal t.out o.numbers ≡ None = ap (λ (x : Scan F). settle_refusal x.out o.numbers) told.2 ∙ own_order o.numbers in
        subst (λ (l : Line). Settled l o o.numbers.entry q (u ≡ with_out None t) t u) own carried.always

    -- the order is accepted
    pub accepted : IsOk q
    accepted = ap is_ok settled.0

    pub entered : (e : ℕ) → q ≡ Ok e → Entered s k (Ok e) u
    entered e answer =
        let accepted = settled.0 in
        let same : o.numbers.entry ≡ e = cc in
        answered _ _ _ s u free (told.1 ∙ ap Some same, settled.1 ∙ ap (with_out None) told.2)
