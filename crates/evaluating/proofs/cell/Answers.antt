-- `evaluating::cell` meets its contract: eight values a node, those of the node at the occurrence's position. Assumes nothing.
use Rattle.evaluating.proofs.PlaceLaws.{cell_from}
use Rattle.evaluating.proofs.cell.Goals as goal

pub returns : goal.returns
returns c = search cell_from
