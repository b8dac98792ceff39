-- Mounting, from the parts of its code, and that what was built is accepted.
use Rattle.std.proofs.Common.{◌≡◌, ℕ, List, length, get_or, drop, Ok, Err, Result, sym, refl, ap, ◌∙◌, subst, inl, inr, arith}
use Rattle.std.proofs.lemmas.List.FromFn.{length-map-range_with_len}
use Rattle.std.proofs.lemmas.List.{length-append, length-drop}
use Rattle.landmark.specs.Grammar.{words_of}
use Rattle.landmark.specs.declared.refusal.Fault.{Fault}
use Rattle.shift.specs.Table.{entries, all_bytes, number_of, table_of}
use Rattle.shift.specs.Building.{admission_fault, Builds}
use Rattle.shift.specs.Mounting.{Refuses, Mounts, AcceptsBuilt}
use Rattle.shift.specs.declared.shift.ShiftFinder.{ShiftFinder}
use Rattle.shift.proofs.Admission.{admitted_sizes}
use Rattle.shift.proofs.Numbers.{table_at}

-- a table keeps its length when it is built
built_length : (l before table : List ℕ) (written : ℕ) → Builds l before table (Ok written) → length table ≡ length before
built_length l before table written (none, all, is) =
    let enough = admitted_sizes l (length before) none in
    let size = length-map-range_with_len (number_of (all_bytes (words_of l))) 0 entries in
    ap length is ∙ length-append (table_of (words_of l)) (drop entries before) ∙ omega (arith, length-drop entries before)

-- a table that was built is not refused
built_refused : (l before table : List ℕ) (written : ℕ) (f : Fault) → Builds l before table (Ok written) → Refuses l table f → ⊥
built_refused l before table written f built (inl fault) =
    let same = ap (admission_fault l) (built_length l before table written built) in
    let none = built.0 in
    let z : ◌≡◌ {A = ℕ} 0 1 = cc in
    omega arith
built_refused l before table written f built (inr (none, is, first)) =
    first.wrong (ap (λ t. get_or t f.detail 0) built.2 ∙ table_at (words_of l) (drop entries before) f.detail first.within)

-- so mounting accepts it
pub accepts_built : (l table : List ℕ) (s s' : ShiftFinder) (r : Result Unit Fault) → Mounts l table s s' r → AcceptsBuilt l table r
accepts_built l table s s' (Ok done) mounts before written built = refl
accepts_built l table s s' (Err f) (why, kept) before written built = absurd (built_refused l before table written f built why)

-- a refusal, and the finder as it was
pub refused : (l table : List ℕ) (s : ShiftFinder) (f : Fault) (r : Result Unit Fault) → Refuses l table f → r ≡ Err f → Mounts l table s s r × AcceptsBuilt l table r
refused l table s f r why is = let mounts = subst (Mounts l table s s) (sym is) (why, refl) in (mounts, accepts_built l table s s r mounts)
