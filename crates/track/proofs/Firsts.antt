-- The smallest number that passes, as more numbers pass.
use Rattle.std.proofs.Common.{◌≡◌, ℕ, ◌≤◌, ◌⊎◌, Some, None, Option, ⊎_elim, arith}
use Rattle.finder.specs.Meaning.{ExactlyIf}
use Rattle.track.specs.Tracking.{IsFirst}

-- the same numbers have the same smallest
pub first_same : (P Q : ℕ → Type 0) (o : Option ℕ) → ((d : ℕ) → ExactlyIf (P d) (Q d)) → IsFirst P o → IsFirst Q o
first_same P Q (Some e) same (here, least) = ((same e).0 here, λ d q. least d ((same d).1 q))
first_same P Q None same none = λ d q. none d ((same d).1 q)

-- one greater number more changes nothing where there was one
pub first_kept : (P Q : ℕ → Type 0) (e x : ℕ) → ((d : ℕ) → P d → Q d) → ((d : ℕ) → Q d → P d ⊎ (d ≡ e)) → ((d : ℕ) → P d → d ≤ e) → IsFirst P (Some x) → IsFirst Q (Some x)
first_kept P Q e x more back below (here, least) =
    (more x here, λ d q. ⊎_elim (λ p. least d p) (λ is. let under = below x here in omega arith) (back d q))

-- and is the smallest where there was none
pub first_found : (P Q : ℕ → Type 0) (e : ℕ) → Q e → ((d : ℕ) → Q d → P d ⊎ (d ≡ e)) → IsFirst P None → IsFirst Q (Some e)
first_found P Q e here back none = (here, λ d q. ⊎_elim (λ p. absurd (none d p)) (λ is. omega arith) (back d q))
