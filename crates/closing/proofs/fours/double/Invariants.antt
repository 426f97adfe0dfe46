-- The invariant: as many of the unions as the loop has gone through stand once more, with the row.
use Prim.Native.Nat.{◌≤◌, ◌-◌}
use Rattle.closing.specs.Fours.{Doubled}
use Rattle.closing.proofs.fours.double.Given as goal

abbrev pub invariant-loop-s : goal.invariant-loop-s
invariant-loop-s l = (l.s ≤ l.count) × Doubled l.initial.unions l.count l.row l.s l.unions

abbrev pub decreases-loop-s : goal.decreases-loop-s
decreases-loop-s l = l.count - l.s
