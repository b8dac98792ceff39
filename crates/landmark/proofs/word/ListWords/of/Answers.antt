use Rattle.landmark.proofs.WordLaws.{words_few}
use Rattle.landmark.proofs.word.ListWords.of.Goals as goal

pub returns-clause-few : goal.returns-clause-few
returns-clause-few c = words_few c.args.list.now _
