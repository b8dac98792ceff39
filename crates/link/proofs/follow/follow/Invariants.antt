use Rattle.link.proofs.follow.follow.Given as goal

abbrev pub ghost-from_root : goal.ghost-from_root
ghost-from_root g a = g.ss

abbrev pub ghost-follow_to_top : goal.ghost-follow_to_top
ghost-follow_to_top g a = g.ss
