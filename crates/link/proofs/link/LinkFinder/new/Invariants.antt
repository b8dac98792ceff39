use Rattle.nodes.specs.Nodes.{strings}
use Rattle.words.specs.Index.{indexed}
use Rattle.link.proofs.link.LinkFinder.new.Given as goal

abbrev pub ghost-on : goal.ghost-on
ghost-on a = strings (indexed a.words)
