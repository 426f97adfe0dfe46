-- `remaining::of_visit` meets its contract: the eight places of visit n in the word that is kept of the symbol. Assumes nothing.
use Rattle.remaining.proofs.LeftLaws.{visit_by}
use Rattle.remaining.proofs.of_visit.Goals as goal

pub returns : goal.returns
returns c = search visit_by
