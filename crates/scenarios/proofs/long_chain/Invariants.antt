-- `scenarios::long_chain` puts the root, then a link a turn, then the last node: after k turns k links stand. Assumes nothing.
use Prim.Native.Nat.{◌-◌}
use Rattle.scenarios.proofs.NodeLaws.{Linked}
use Rattle.scenarios.proofs.long_chain.Given as goal

abbrev pub invariant-loop-k : goal.invariant-loop-k
invariant-loop-k l = Linked l.initial.tree l.k l.tree

abbrev pub decreases-loop-k : goal.decreases-loop-k
decreases-loop-k l = 1022 - l.k
