use Rattle.std.proofs.Common.{◌≡◌, ◌∷◌, arith}
use Rattle.std.proofs.lemmas.Grind.{common_steps}
use Rattle.landmark.specs.Readings.{reading, readings_from, readings_left}
use Rattle.landmark.proofs.ReadingLaws.{readings-one}
use Rattle.landmark.proofs.records.RecordsIterator.next.Goals as goal

pub returns-clause-steps : goal.returns-clause-steps
returns-clause-steps c =
    readings-one c.args.self.now.list.now c.args.self.now.place _ _ (omega arith) c.read_element-read.ensures (grind arith)

pub returns-clause-goes : goal.returns-clause-goes
returns-clause-goes c =
    let one : readings_left c.args.self.now ≡ reading c.read_element-read.result ∷ readings_from c.args.self.now.list.now c.match-read.self =
    readings-one c.args.self.now.list.now c.args.self.now.place _ _ (omega arith) c.read_element-read.ensures (grind arith) in grind (arith, common_steps)
