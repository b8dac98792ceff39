use Rattle.link.proofs.link.LinkFinder.next_node.Given as goal

abbrev pub ghost-follow_to_top : goal.ghost-follow_to_top
ghost-follow_to_top g a = g.ss
