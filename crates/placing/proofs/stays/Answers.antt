-- Nothing is left of the unplaced successors outside the class exactly where all of them are of the class.
use Rattle.placing.proofs.TakenLaws.{stays_by}
use Rattle.placing.specs.SymbolSets.{stays}
use Rattle.placing.proofs.stays.Goals as goal

pub returns : goal.returns
unfolding stays
returns c = search stays_by
