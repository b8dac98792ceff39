use Rattle.link.proofs.building.fill.Given as goal

abbrev pub ghost-link_back : goal.ghost-link_back
ghost-link_back g a = g.ws
