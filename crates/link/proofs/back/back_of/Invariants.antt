use Rattle.nodes.specs.Nodes.{strings}
use Rattle.link.proofs.back.back_of.Given as goal

abbrev pub ghost-follow : goal.ghost-follow
ghost-follow g a = strings g.ws
