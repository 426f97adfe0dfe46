-- `remaining::part_by_visit` meets its contract. After a turns the word holds those of the first a attributes.
-- Assumes nothing.
use Prim.Native.Nat.{◌-◌}
use Rattle.remaining.proofs.PartLaws.{Parting}
use Rattle.remaining.proofs.part_by_visit.Given as goal

abbrev pub invariant-loop-a : goal.invariant-loop-a
invariant-loop-a l = Parting l.sets l.x l.parity l.visits l.part l.a

abbrev pub decreases-loop-a : goal.decreases-loop-a
decreases-loop-a l = 8 - l.a
