-- What the new arcs lead to is found first, and the row gets all of it.
use Rattle.closing.proofs.ReachLaws.{extended_row}
use Rattle.closing.proofs.extend_row.Goals as goal

pub returns : goal.returns
returns c = search extended_row
