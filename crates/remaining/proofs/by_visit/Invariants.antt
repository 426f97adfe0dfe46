-- `remaining::by_visit` meets its contract. After x turns the table has the words of the first x symbols. Assumes nothing.
use Prim.Native.Nat.{◌-◌}
use Rattle.remaining.proofs.PartLaws.{Tabling}
use Rattle.remaining.proofs.by_visit.Given as goal

abbrev pub invariant-loop-x : goal.invariant-loop-x
invariant-loop-x l = Tabling l.words l.sets l.by l.x-end l.x

abbrev pub decreases-loop-x : goal.decreases-loop-x
decreases-loop-x l = l.x-end - l.x
