-- `checking::name_children` meets its contract: the invariant NamedTo says that each count has grown by the slots so far that name its node. A node has at
-- most seven, so no count passes 16 bits.
-- Assumes nothing.
use Rattle.checking.proofs.NameLaws.{NamedTo}
use Rattle.checking.proofs.name_children.Given as goal

abbrev pub invariant-loop-child : goal.invariant-loop-child
invariant-loop-child l = NamedTo l.initial.named l.t l.n l.used l.named l.child-index
