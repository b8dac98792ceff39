use Rattle.link.proofs.back.link_child.Given as goal

abbrev pub ghost-back_of : goal.ghost-back_of
ghost-back_of g a = g.ws
