-- `checking::values_fault` meets its contract: 18 is refused exactly where there are fewer than eight values for each node. Assumes nothing.
use Rattle.checking.proofs.WholeCheckLaws.{values_short, values_enough}
use Rattle.checking.proofs.values_fault.Goals as goal

pub returns-then-values-nodes : goal.returns-then-values-nodes
returns-then-values-nodes c = search values_short

pub returns : goal.returns
returns c = search values_enough
