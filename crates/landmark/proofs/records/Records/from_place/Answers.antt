use Rattle.landmark.proofs.ReadingLaws.{readings_few}
use Rattle.landmark.proofs.records.Records.from_place.Goals as goal

pub returns-clause-few : goal.returns-clause-few
returns-clause-few c = readings_few c.args.list.now _
