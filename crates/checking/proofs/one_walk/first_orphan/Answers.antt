-- `checking::one_walk::first_orphan` meets its contract: the invariant Walked says that all is well so far but for nodes without a parent,
-- of which `orphan` is the first. At the end that holds of the whole tree. Assumes nothing.
use Rattle.checking.proofs.FirstOrphanLaws.{start_fits_law, walk_start, walk_end}
use Rattle.checking.proofs.one_walk.first_orphan.Goals as goal

pub overflow_cast-wanted : goal.overflow_cast-wanted
overflow_cast-wanted c = search start_fits_law

pub loop-n-init : goal.loop-n-init
loop-n-init c = search walk_start

pub returns : goal.returns
returns c = search walk_end
