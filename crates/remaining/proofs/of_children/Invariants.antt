-- `remaining::of_children` meets its contract. After i turns the set holds what is found of children 1 to i: each child has eight bits of its own,
-- and the left side, which is no child, has none. Assumes nothing.
use Prim.Native.Nat.{◌-◌}
use Rattle.remaining.proofs.BlockSetLaws.{Calling}
use Rattle.remaining.proofs.of_children.Given as goal

abbrev pub invariant-loop-i : goal.invariant-loop-i
invariant-loop-i l = Calling l.rule.words.now l.kept l.rule.at l.n l.found l.i

abbrev pub decreases-loop-i : goal.decreases-loop-i
decreases-loop-i l = l.n - l.i
