use Rattle.nodes.specs.Nodes.{strings}
use Rattle.link.specs.Meaning.{words_in}
use Rattle.link.proofs.as_finder.LinkFinderFinder.take.Given as goal

abbrev pub ghost-next_node : goal.ghost-next_node
ghost-next_node a = strings (words_in a.self.now)
