-- `checking::nodes::slot_fits` meets its contract: a used slot is above its node and a node, an unused one is zero; each way out is one of these.
-- Assumes nothing.
use Rattle.checking.proofs.NodeTestLaws.{slot_inside, slot_low, slot_unused}
use Rattle.checking.proofs.nodes.slot_fits.Goals as goal

pub returns-then-i-used : goal.returns-then-i-used
returns-then-i-used c = search slot_unused

pub returns-then-n-child : goal.returns-then-n-child
returns-then-n-child c = search slot_inside

pub returns-else-n-child : goal.returns-else-n-child
returns-else-n-child c = search slot_low
