-- The invariant: the first x symbols have their arcs, and the other words are 0.
use Prim.Native.Nat.{◌≤◌}
use mathlib.Core.Path.{◌≡◌}
use Rattle.extending.specs.Descents.{order_to}
use Rattle.extending.proofs.order.Given as goal

abbrev pub invariant-loop-x : goal.invariant-loop-x
invariant-loop-x l = (l.x ≤ l.symbols) × (l.arcs ≡ order_to l.table.words.now l.sets l.x)
