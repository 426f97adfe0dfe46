-- The invariant: the arcs from the first a attributes are in the set, each at its own eight places.
use Prim.Native.Nat.{◌≤◌, ◌-◌}
use mathlib.Core.Path.{◌≡◌}
use Rattle.closing.specs.Rows.{arcs_at}
use Rattle.closing.proofs.arcs_at.Given as goal

abbrev pub invariant-loop-a : goal.invariant-loop-a
invariant-loop-a l = (l.a ≤ l.count) × (l.arcs ≡ arcs_at l.rows l.i l.a)

abbrev pub decreases-loop-a : goal.decreases-loop-a
decreases-loop-a l = l.count - l.a
