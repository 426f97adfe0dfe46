-- The invariant: the arcs from the first a attributes are there. Where no attribute from a on has arcs, all are there.
use Prim.Native.Nat.{◌≤◌}
use Rattle.inducing.specs.Closes.{Joined}
use Rattle.inducing.proofs.JoinLaws.{ArcFrom}
use Rattle.inducing.proofs.join_at.Given as goal

abbrev pub invariant-loop-a : goal.invariant-loop-a
invariant-loop-a l = (l.a ≤ 8) × Joined l.initial.rows l.starts (ArcFrom l.i l.arcs l.a) l.rows l.more
