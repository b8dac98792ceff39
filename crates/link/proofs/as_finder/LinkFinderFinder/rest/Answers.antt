use Rattle.std.proofs.Common.{refl, ap, ◌∙◌}
use Rattle.finder.specs.Words.{half_read}
use Rattle.finder.proofs.HalfRead.{half_read-nothing}
use Rattle.nodes.proofs.Strings.{rooted_strings}
use Rattle.link.specs.Meaning.{words_in}
use Rattle.link.proofs.as_finder.LinkFinderFinder.rest.Goals as goal

pub returns : goal.returns
returns c =
    let ws = words_in c.args.self.now in
    record { kept = refl; half = ap (half_read ws) (rooted_strings ws).first ∙ half_read-nothing ws }
