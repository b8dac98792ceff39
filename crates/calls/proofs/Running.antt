-- A row of calls, one after another.
use Rattle.std.proofs.Common.{◌≡◌, ℕ, ◌+◌, ◌<◌, min, List, [], ◌∷◌, ◌++◌, length, get_or, take, drop, set, sym, refl, ap, ◌∙◌, subst, arith, get_or-set_same, drop-drop, drop-set-lt}
use lib.Seq.{take-set-le}
use Rattle.std.proofs.lemmas.List.{length-set, take_more}
use Rattle.finder.specs.declared.finder.Finder.{Ghosts}
use Rattle.scan.specs.History.{out}
use Rattle.scan.specs.Calls.{Made}
use Rattle.scan.specs.Runs.{Step, Run, made, next, history}
use Rattle.scan.proofs.Standing.{run_stands}
use Rattle.scan.specs.declared.scan.Scan.{Scan}
use Rattle.calls.specs.declared.call.Answer.{Answer}
use Rattle.calls.specs.declared.call.Call.{Call}
use Rattle.calls.specs.declared.holder.Holder.{Holder}
use Rattle.calls.specs.Held.{numbers_held}
use Rattle.calls.specs.Rows.{DoesAll, IsSteps, Makes, RanRow, Row, none, more}

module _ {F : Type 0} (finder : Ghosts F) (f : F) where
  run_all : {vs : List Step} {s : Scan F} (ws : List Step) (t : Scan F) → Run finder f vs s → DoesAll finder ws s t → Run finder f (ws ++ vs) t
  run_all {vs = vs} [] t run same = subst (Run finder f vs) (sym same) run
  run_all (v ∷ ws) t run (u, before, does) = next v (run_all ws u run before) does

  -- the first i calls of a row are made
  pub record Running (calls : List Call) (before : List Answer) (i : ℕ) (answers : List Answer) (s : Holder F) : Type 0 where
    pub steps : List Step
    pub run : Run finder f steps s.scan
    pub row : Row (take i calls) (take i answers) steps
    pub rest : drop i answers ≡ drop i before
    pub size : length answers ≡ length before

  pub running_none : (calls : List Call) (before : List Answer) (s : Holder F) → Made f s.scan → Running calls before 0 before s
  running_none calls before s m = record { steps = []; run = made m; row = none; rest = refl; size = refl }

  held-is : {steps : List Step} (s : Holder F) → Run finder f steps s.scan → numbers_held s.order ≡ out (history steps)
  held-is s run = sym s.held ∙ (run_stands finder run).order

  pub running_all : (calls : List Call) (before answers : List Answer) (i : ℕ) (s : Holder F) → i ≡ min (length calls) (length before) → Running calls before i answers s → RanRow finder f calls before answers s.order s.scan
  running_all calls before answers i s all r = record {
    steps = r.steps;
    run = r.run;
    row = subst (λ (k : ℕ). Row (take k calls) (take k answers) r.steps) all r.row;
    rest = subst (λ (k : ℕ). drop k answers ≡ drop k before) all r.rest;
    held = held-is s r.run;
  }

  -- one call more
  pub running_more : (calls : List Call) (before answers : List Answer) (i : ℕ) (s : Holder F) (call : Call) (answer : Answer) (t : Holder F) → i < length calls → i < length before → call ≡ get_or calls i call
      → Running calls before i answers s → Makes finder s call answer t → Running calls before (i + 1) (set answers i answer) t
  running_more calls before answers i s call answer t in-calls in-answers at r m =
      let size = r.size in
      let row : Row (take i calls ++ (call ∷ [])) (take i answers ++ (answer ∷ [])) (m.steps ++ r.steps) = more call answer m.steps r.row (subst (λ x. IsSteps x call answer m.steps) (held-is s r.run) m.is) in
      let calls-more : take (i + 1) calls ≡ take i calls ++ (call ∷ []) = take_more calls i call in-calls ∙ ap (λ x. take i calls ++ (x ∷ [])) (sym at) in
      let answers-more : take (i + 1) (set answers i answer) ≡ take i answers ++ (answer ∷ []) =
      take_more (set answers i answer) i answer (subst (λ (n : ℕ). i < n) (sym (length-set answers i answer)) (omega arith))
      ∙ ap (λ xs. xs ++ (get_or (set answers i answer) i answer ∷ [])) (take-set-le i answers i answer (omega arith)) ∙ ap (λ x. take i answers ++ (x ∷ [])) (get_or-set_same answers i answer answer (omega arith)) in
      record {
        steps = m.steps ++ r.steps;
        run = run_all m.steps t.scan r.run m.does;
        row = subst (λ xs. Row xs (take (i + 1) (set answers i answer)) (m.steps ++ r.steps)) (sym calls-more) (subst (λ xs. Row (take i calls ++ (call ∷ [])) xs (m.steps ++ r.steps)) (sym answers-more) row);
        rest = drop-set-lt (i + 1) answers i answer (omega arith) ∙ sym (drop-drop 1 i answers) ∙ ap (drop 1) r.rest ∙ drop-drop 1 i before;
        size = length-set answers i answer ∙ r.size;
      }
