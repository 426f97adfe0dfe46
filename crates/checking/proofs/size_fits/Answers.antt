-- `checking::size_fits` meets its contract: the tests are 01's three, in their order. Assumes nothing.
use Rattle.checking.proofs.NodeTestLaws.{size_all, size_none, size_part}
use Rattle.checking.proofs.size_fits.Goals.{then-t-eq0, else-t-eq0}
use Rattle.checking.proofs.size_fits.Goals as goal

pub returns-then-nodes-ge1 : goal.returns-then-nodes-ge1
returns-then-nodes-ge1 c = search size_all

pub returns-else-nodes-ge1 : goal.returns-else-nodes-ge1
returns-else-nodes-ge1 c = elim c.if-t-eq0.branch [ then-t-eq0 w ↦ search size_none | else-t-eq0 w ↦ search size_part ]
