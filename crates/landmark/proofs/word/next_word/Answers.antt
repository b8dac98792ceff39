use Rattle.std.proofs.Common.{rules, refl}
use Rattle.landmark.proofs.WordLaws.{word_found}
use Rattle.landmark.proofs.word.next_word.Goals as goal

pub returns : goal.returns
returns c = word_found _ _ c.args.list.now c.args.place _ _ c.from_place.ensures.all (λ a r f k. refl) (λ x r k. search rules) c.find_map.ensures.runs
