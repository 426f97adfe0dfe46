-- `checking::one_walk::first_orphan` meets its contract: the invariant Walked says that all is well so far but for nodes without a parent,
-- of which `orphan` is the first. At the end that holds of the whole tree. Assumes nothing.
use Rattle.checking.specs.Walk.{Walked}
use Rattle.checking.proofs.one_walk.first_orphan.Given as goal

abbrev pub invariant-loop-n : goal.invariant-loop-n
invariant-loop-n l = Walked l.table.words.now l.t l.wanted l.n l.orphan l.nodes
