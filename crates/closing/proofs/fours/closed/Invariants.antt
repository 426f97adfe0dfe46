-- The invariant: the rows are those of rows in which paths meet at each of the first i of the four.
use Prim.Native.Nat.{◌≤◌, ◌-◌}
use Rattle.closing.proofs.FourClosing.{FourClosing}
use Rattle.closing.proofs.fours.closed.Given as goal

abbrev pub invariant-loop-i : goal.invariant-loop-i
invariant-loop-i l = (l.i ≤ 4) × FourClosing l.rows l.here l.k l.i l.four

abbrev pub decreases-loop-i : goal.decreases-loop-i
decreases-loop-i l = 4 - l.i
