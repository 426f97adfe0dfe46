-- `scenarios::many_lines` puts the root, then a rule and its line a turn, then the last two nodes: after k turns k lines stand. Assumes nothing.
use Prim.Native.Nat.{◌-◌}
use Rattle.scenarios.proofs.NodeLaws.{Lined}
use Rattle.scenarios.proofs.many_lines.Given as goal

abbrev pub invariant-loop-k : goal.invariant-loop-k
invariant-loop-k l = Lined l.initial.tree l.k l.tree

abbrev pub decreases-loop-k : goal.decreases-loop-k
decreases-loop-k l = 510 - l.k
