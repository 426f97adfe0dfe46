-- Shifted down by k, the four are the lowest.
use Rattle.closing.proofs.FourLaws.{four_is}
use Rattle.closing.proofs.fours.which.Goals as goal

pub returns-clause-value : goal.returns-clause-value
returns-clause-value c = search four_is
