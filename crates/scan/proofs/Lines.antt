-- What follows where no line of the rules applies.
use Rattle.std.proofs.Common.{◌≡◌, ℕ, zero, suc, ◌+◌, ◌<◌, ◌≤◌, Bool, true, false, not, eqb, ltb, List, [], ◌∷◌, length, Some, None, Option, sym, refl, ap, ◌∙◌, arith}
use Rattle.std.specs.List.{slice_get}
use Rattle.std.proofs.lemmas.Bool.Decides.{nat_tests}
use Rattle.landmark.specs.Records.{or_else}
use Rattle.landmark.specs.declared.refusal.Refusal.{Refusal}
use Rattle.scan.specs.Rules.{Line, Facts, line, out_line, offer_refusal, same_numbers, settle_refusal}
use Rattle.scan.specs.declared.order.Numbers.{Numbers}

pub some_none : {A X : Type 0} {x : A} → ◌≡◌ {A = Option A} (Some x) None → X
some_none e = cc

pub neither : (a b : Line) → or_else a b ≡ None → (a ≡ None) × (b ≡ None)
neither (Some f) b e = some_none e
neither None b e = (refl, e)

pub not_applied : (applies : Bool) (why : Refusal) (detail : ℕ) → line applies why detail ≡ None → applies ≡ false
not_applied true why detail e = some_none e
not_applied false why detail e = refl

pub none_out : (held : Option Numbers) → out_line held ≡ None → held ≡ None
none_out None e = refl
none_out (Some n) e = some_none e

same-pair : (m n : Numbers) → m.landmark ≡ n.landmark → m.entry ≡ n.entry → ◌≡◌ {A = Option Numbers} (Some m) (Some n)
same-pair m n landmark entry = ap (λ x. Some (record { landmark = x; entry = m.entry })) landmark ∙ ap (λ x. Some (record { landmark = n.landmark; entry = x })) entry

-- an order that is accepted is the one that is out
pub accepted_out : (held : Option Numbers) (n : Numbers) → settle_refusal held n ≡ None → held ≡ Some n
accepted_out None n e = some_none e
accepted_out (Some m) n e =
    let same = not_applied (not (same_numbers (Some m) n)) _ _ e in
    let landmark : m.landmark ≡ n.landmark = grind (arith, nat_tests) in
    let entry : m.entry ≡ n.entry = grind (arith, nat_tests) in
    same-pair m n landmark entry

-- a block that is accepted by a scan that is open fits
pub fits : (f : Facts) (place size : ℕ) → offer_refusal (Some f) place size ≡ None → f.taken + size ≤ f.announced
fits f place size e =
    let within = not_applied (ltb f.announced (f.taken + size)) _ _ (neither _ None (neither (line (not (eqb place f.taken)) _ _) _ e).1).0 in
    grind (arith, nat_tests)

-- a place where a list has something
pub nth_within : {X : Type 0} (xs : List X) (k : ℕ) (x : X) → slice_get xs k ≡ Some x → k < length xs
nth_within [] k x e = some_none (sym e)
nth_within (y ∷ xs) zero x e = omega arith
nth_within (y ∷ xs) (suc k) x e = let rest = nth_within xs k x e in omega arith
