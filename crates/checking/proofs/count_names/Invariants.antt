-- `checking::count_names` meets its contract: the invariant CountedTo says that the counts are those of the nodes so far; a node adds what its
-- used slots name.
-- Assumes nothing.
use Prim.Native.Nat.{◌-◌}
use Rattle.checking.proofs.NameLaws.{CountedTo}
use Rattle.checking.proofs.count_names.Given as goal

abbrev pub invariant-loop-n : goal.invariant-loop-n
invariant-loop-n l = CountedTo l.table.words.now l.t l.named l.n l.nodes

abbrev pub decreases-loop-n : goal.decreases-loop-n
decreases-loop-n l = l.nodes - l.n
