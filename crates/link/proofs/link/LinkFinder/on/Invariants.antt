use Rattle.link.proofs.link.LinkFinder.on.Given as goal

abbrev pub ghost-root_row : goal.ghost-root_row
ghost-root_row g a = g.ss
