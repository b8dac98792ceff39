use Rattle.words.specs.Index.{indexed}
use Rattle.link.proofs.building.build.Given as goal

abbrev pub ghost-fill : goal.ghost-fill
ghost-fill a = indexed a.words.now
