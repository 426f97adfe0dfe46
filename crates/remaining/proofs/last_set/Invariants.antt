-- `remaining::last_set` meets its contract. After a turns `last` is the highest set of the attributes below a, and a word's size at most.
-- Assumes nothing.
use Prim.Native.Nat.{◌-◌}
use Rattle.remaining.proofs.PartLaws.{Climbing}
use Rattle.remaining.proofs.last_set.Given as goal

abbrev pub invariant-loop-a : goal.invariant-loop-a
invariant-loop-a l = Climbing l.sets l.x l.last l.a

abbrev pub decreases-loop-a : goal.decreases-loop-a
decreases-loop-a l = 8 - l.a
