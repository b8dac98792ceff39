use Rattle.occurrence.proofs.SearchLaws.{search_finds_the_end}
use Rattle.occurrence.proofs.search_finds_the_end.Goals as goal

pub returns : goal.returns
returns c = search_finds_the_end
