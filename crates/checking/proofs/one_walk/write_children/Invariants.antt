-- `checking::one_walk::write_children` meets its contract: the invariant WrittenTo says that the symbols of the slots so far are written down, each
-- for a node above for which nothing was written; a slot that names no such node refuses. Assumes nothing.
use Rattle.checking.proofs.OneWalkLaws.{WrittenTo}
use Rattle.checking.proofs.one_walk.write_children.Given as goal

abbrev pub invariant-loop-i : goal.invariant-loop-i
invariant-loop-i l = WrittenTo l.initial.wanted l.table.words.now l.t l.n l.p l.used l.wanted l.i
