use Rattle.std.proofs.Common.{◌≡◌, length, Err, sym, refl, ap, ◌∙◌, subst, inl, inr, arith}
use Rattle.std.proofs.lemmas.List.{length-take-le}
use Rattle.std.proofs.lemmas.Result.{err_from_is_err_and}
use Rattle.finder.specs.Words.{at_rest, half_read}
use Rattle.finder.proofs.HalfRead.{half_read-nothing}
use Rattle.nodes.specs.Nodes.{string, strings}
use Rattle.nodes.proofs.Strings.{rooted_strings}
use Rattle.words.specs.Index.{indexed}
use Rattle.landmark.specs.Grammar.{words_of}
use Rattle.link.specs.Comparing.{FirstWrong}
use Rattle.link.specs.Meaning.{words_in}
use Rattle.link.proofs.Admission.{admitted}
use Rattle.link.proofs.MountLaws.{accepts_built, refused, right_table, used-table}
use Rattle.link.proofs.link.LinkFinder.mount.Goals as goal

pub returns-in_err-admit : goal.returns-in_err-admit
returns-in_err-admit c =
    let l = c.args.list.now in
    let t = c.args.table.now in
    let left = err_from_is_err_and c.from_residual.result c.from_residual.ensures.1 in
    let (exact, right) = refused l t c.args.self.now _ c.from_residual.result (inl c.in_err-admit.ensures) (left.1 ∙ ap Err left.2) in
    record { exact = exact; law = right; built = accepts_built l c.of-words.result t _ c.of-words.ensures right }

pub compare-requires : goal.compare-requires
compare-requires c = (admitted c.args.list.now (length c.args.table.now) c.of-words.result c.in_ok-admit.ensures c.of-words.ensures).nodes

pub returns-in_err-used : goal.returns-in_err-used
returns-in_err-used c =
    let l = c.args.list.now in
    let t = c.args.table.now in
    let none = c.in_ok-admit.ensures in
    let good = admitted l (length t) c.of-words.result none c.of-words.ensures in
    let left = err_from_is_err_and c.from_residual-in_err-used.result c.from_residual-in_err-used.ensures.1 in
    let (differs, wrong) = c.in_err-used.ensures in
    let first = subst (λ ws. FirstWrong ws t c.in_err-used.field-0.0.detail) good.words wrong in
    let (exact, right) = refused l t c.args.self.now _ c.from_residual-in_err-used.result (inr (none, differs, first)) (left.1 ∙ ap Err left.2) in
    record { exact = exact; law = right; built = accepts_built l c.of-words.result t _ c.of-words.ensures right }

pub slice_bounds-on-end : goal.slice_bounds-on-end
slice_bounds-on-end c =
    let t = c.args.table.now in
    let good = admitted c.args.list.now (length t) c.of-words.result c.in_ok-admit.ensures c.of-words.ensures in
    sym (length-take-le c.in_ok-used.used t (omega (arith, good.nodes, c.in_ok-used.ensures.0)))

pub on-requires : goal.on-requires
on-requires c =
    let t = c.args.table.now in
    let ws = indexed c.of-words.result in
    let good = admitted c.args.list.now (length t) c.of-words.result c.in_ok-admit.ensures c.of-words.ensures in
    let (used, right) = c.in_ok-used.ensures in
    (used-table ws t c.in_ok-used.used good.nodes used right, refl)

pub returns : goal.returns
returns c =
    let t = c.args.table.now in
    let ws = indexed c.of-words.result in
    let none = c.in_ok-admit.ensures in
    let good = admitted c.args.list.now (length t) c.of-words.result none c.of-words.ensures in
    let right = right_table ws t good.nodes c.in_ok-used.ensures.1 in
    let words = good.words in
    let here = words_in c.on.result in
    let same : here ≡ words_of c.args.list.now = ap indexed c.on.ensures.words ∙ words in
    let at = c.on.ensures.rest in
    let rest = ap (λ n. half_read here (string (strings here) n)) at ∙ ap (half_read here) (rooted_strings here).first ∙ half_read-nothing here ∙ ap at_rest same in
    record { exact = (none, cc, same, rest, at); law = λ counts verdict enough begins. refl; built = λ before used built. refl }
