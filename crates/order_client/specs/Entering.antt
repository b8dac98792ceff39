-- Entering an image by one call.
use Rattle.std.specs.Prelude.{◌≡◌, ℕ, Some, None, Result}
use Rattle.landmark.specs.declared.refusal.Fault.{Fault}
use Rattle.scan.specs.Rules.{end_at, issue_refusal}
use Rattle.scan.specs.Calls.{Upon, own_facts, with_out}
use Rattle.scan.specs.declared.scan.Scan.{Scan}

-- refused as issuing is; or the landmark's end, and the scan is as before, with no order out
abbrev pub Entered : {F : Type 0} → Scan F → ℕ → Result ℕ Fault → Scan F → Type 0
Entered s k r t = Upon (issue_refusal s.out (own_facts s) k) r (λ e. (end_at (own_facts s) k ≡ Some e) × (t ≡ with_out None s)) s t
