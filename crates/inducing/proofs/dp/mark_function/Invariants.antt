-- The invariant: the arcs from the first j arguments are marked.
use Prim.Native.Nat.{◌≤◌}
use Rattle.inducing.specs.Closes.{Marked}
use Rattle.inducing.specs.Arcs.{FunctionArc}
use Rattle.inducing.proofs.dp.mark_function.Given as goal

abbrev pub invariant-loop-j : goal.invariant-loop-j
invariant-loop-j l = (l.j ≤ l.count) × Marked l.initial.rows (FunctionArc l.words l.f l.j) l.rows
