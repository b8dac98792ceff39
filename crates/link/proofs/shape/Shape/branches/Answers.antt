use Rattle.std.proofs.Common.{◌<◌, length, take, Decides, sym, ap, ◌∙◌, subst}
use Rattle.std.proofs.lemmas.Bool.Decides.{Decides-like}
use Rattle.finder.specs.Words.{word}
use Rattle.link.specs.Shape.{BeginsWith}
use Rattle.link.specs.Shaping.{its_words}
use Rattle.link.specs.declared.shape.Part.{Part}
use Rattle.link.proofs.Beginning.{decides_begins}
use Rattle.link.proofs.shape.Shape.branches.Goals as goal

pub returns-then-depth-word : goal.returns-then-depth-word
returns-then-depth-word c =
    let ws = its_words c.args.self.now in
    let d = c.args.depth in
    let r = c.starts_with.result in
    let (shares, longer) = c.if-depth-word.true in
    let test = decides_begins c.word-word.result.now (take d c.word.result.now) r c.starts_with.ensures.value in
    let named = subst (λ w. Decides r (BeginsWith w (take d c.word.result.now))) c.word-word.ensures test in
    let both = subst (λ w. Decides r (BeginsWith (word ws c.args.i) (take d w))) c.word.ensures named in
    Decides-like r (λ begins. record { begins = begins; shares = ap (λ (p : Part). p.shared) (sym c.part.ensures) ∙ shares; longer = subst (λ w. d < length w) c.word-word.ensures longer }) (λ branch. branch.begins) both
