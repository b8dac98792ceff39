-- Mounting, from the parts of its code, and that a right table and what was built are accepted.
use Rattle.std.proofs.Common.{◌≡◌, ℕ, ◌+◌, ◌≤◌, List, length, take, drop, None, Ok, Err, Result, sym, refl, ap, ◌∙◌, subst, inl, inr, arith}
use Rattle.std.proofs.lemmas.List.{ext_get_or, get_or-take, length-append, length-drop, length-take-le, take_at}
use Rattle.std.proofs.lemmas.Bool.{cond-false, le-ltb}
use Rattle.landmark.specs.Grammar.{words_of}
use Rattle.landmark.specs.Lists.{list_verdict}
use Rattle.landmark.specs.declared.list.Counts.{Counts}
use Rattle.landmark.specs.declared.refusal.Fault.{Fault}
use Rattle.words.specs.Index.{Indexes}
use Rattle.words.specs.declared.words.Words.{Words}
use Rattle.nodes.specs.Nodes.{strings}
use Rattle.link.specs.Building.{Builds}
use Rattle.link.specs.Comparing.{FirstWrong, RightBefore}
use Rattle.link.specs.Mounting.{AcceptsBuilt, AcceptsRight, BeginsRight, Mounts, Refuses, fault_of, size_fault}
use Rattle.link.specs.Table.{no_node, node_at, table_of}
use Rattle.link.specs.declared.link.LinkFinder.{LinkFinder}
use Rattle.link.specs.declared.node.Node.{Node}
use Rattle.link.proofs.Admission.{admitted, has_room, same-refusal}
use Rattle.link.proofs.TableLaws.{length-table}

-- a list without fault and enough entries go together
no_fault : (l : List ℕ) (entries : ℕ) (counts : Counts) → list_verdict l ≡ Ok counts → counts.run_bytes + 1 ≤ entries → size_fault l entries ≡ None
no_fault l entries counts is enough = ap (λ verdict. fault_of verdict entries) is ∙ cond-false _ _ _ (le-ltb entries (counts.run_bytes + 1) enough)

-- a table with all entries right begins with the one that the words define
pub right_table : (ws : List (List ℕ)) (table : List Node) → length (strings ws) ≤ length table → RightBefore ws table (length (strings ws)) → BeginsRight ws table
right_table ws table enough right =
    let used = length (strings ws) in
    let size = length-take-le used table enough in
    ext_get_or no_node (take used table) (table_of ws) (size ∙ sym (length-table ws)) (λ n below. get_or-take used table n no_node (omega arith) ∙ right n (omega arith))

-- those in use are then the whole of it
pub used-table : (ws : List (List ℕ)) (table : List Node) (used : ℕ) → length (strings ws) ≤ length table → used ≡ length (strings ws) → RightBefore ws table (length (strings ws)) → take used table ≡ table_of ws
used-table ws table used enough is right = ap (λ n. take n table) is ∙ right_table ws table enough right

-- and has no wrong one
wrong_table : (ws : List (List ℕ)) (table : List Node) (n : ℕ) → BeginsRight ws table → FirstWrong ws table n → ⊥
wrong_table ws table n begins first = first.wrong (sym (get_or-take (length (strings ws)) table n no_node first.within) ∙ ap (λ t. node_at t n) begins)

-- so it is not refused
right_refused : (l : List ℕ) (table : List Node) (f : Fault) → size_fault l (length table) ≡ None → BeginsRight (words_of l) table → Refuses l table f → ⊥
right_refused l table f none begins (inl fault) = let z : ◌≡◌ {A = ℕ} 0 1 = cc in omega arith
right_refused l table f none begins (inr (_, differs, first)) = wrong_table (words_of l) table f.detail begins first

-- a table that was built is as long as before, and begins with the one that the list's words define
built_right : (l : List ℕ) (w : Words) (before table : List Node) (used : ℕ) → Indexes l w → Builds l before table (Ok used) → (length table ≡ length before) × BeginsRight (words_of l) table
built_right l w before table used index (none, count, is) =
    let ws = words_of l in
    let good = admitted l (length before) w (sym (same-refusal l (length before) w index) ∙ none) index in
    let nodes = subst (λ us. length (strings us) ≤ length before) good.words good.nodes in
    let size = length-table ws in
    let long = length-append (table_of ws) (drop used before) in (
      ap length is ∙ omega (arith, size, long, length-drop used before),
      ap (take (length (strings ws))) is ∙ take_at (table_of ws) (drop used before) (length (strings ws)) size,
    )

-- where right tables are accepted, so are they by the absence of a fault
accepts_none : (l : List ℕ) (table : List Node) (r : Result Unit Fault) (verdict : Result Counts Fault) → list_verdict l ≡ verdict → fault_of verdict (length table) ≡ None → BeginsRight (words_of l) table → AcceptsRight l table r → r ≡ Ok tt
accepts_none l table r (Ok counts) is none begins right = right counts is (omega (arith, has_room counts (length table) none)) begins
accepts_none l table r (Err f) is none begins right = let z : ◌≡◌ {A = ℕ} 0 1 = cc in absurd (omega arith)

-- so where right tables are accepted, what was built is
pub accepts_built : (l : List ℕ) (w : Words) (table : List Node) (r : Result Unit Fault) → Indexes l w → AcceptsRight l table r → AcceptsBuilt l table r
accepts_built l w table r index right before used built =
    let (size, begins) = built_right l w before table used index built in
    accepts_none l table r (list_verdict l) refl (ap (size_fault l) size ∙ sym (same-refusal l (length before) w index) ∙ built.0) begins right

-- a refusal, and the finder as it was
pub refused : (l : List ℕ) (table : List Node) (s : LinkFinder) (f : Fault) (r : Result Unit Fault) → Refuses l table f → r ≡ Err f → Mounts l table s s r × AcceptsRight l table r
refused l table s f r why is = (subst (Mounts l table s s) (sym is) (why, refl), λ counts is enough begins. absurd (right_refused l table f (no_fault l (length table) counts is enough) begins why))
