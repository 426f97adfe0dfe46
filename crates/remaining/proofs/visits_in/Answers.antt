-- `remaining::visits_in` meets its contract: the visits stand in the third part of the table. Assumes nothing.
use Rattle.remaining.proofs.LeftLaws.{visits_by_table}
use Rattle.remaining.proofs.visits_in.Goals as goal

pub returns : goal.returns
returns c = search visits_by_table
