-- The invariant: after k sets the words and what is left are those of the definition.
use Prim.Native.Nat.{◌-◌}
use Rattle.placing.proofs.StepLaws.{Stepping}
use Rattle.placing.proofs.place_symbol.Given as goal

abbrev pub invariant-loop-k : goal.invariant-loop-k
invariant-loop-k l = Stepping l.initial.sets l.at l.every l.inherited l.arcs l.sets l.left l.k

abbrev pub decreases-loop-k : goal.decreases-loop-k
decreases-loop-k l = 9 - l.k
