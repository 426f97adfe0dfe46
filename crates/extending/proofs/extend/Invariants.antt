-- The invariant: the rows have the paths of IDP, those of the first r rules have the arcs that lead down too, and all stay within the paths
-- of EDP. In the end they have every arc of EDP, and are closed.
use Prim.Native.Nat.{◌≤◌}
use Rattle.extending.proofs.ExtendLaws.{Extending}
use Rattle.extending.proofs.extend.Given as goal

abbrev pub invariant-loop-r : goal.invariant-loop-r
invariant-loop-r l = (l.r ≤ l.count) × Extending l.table.words.now l.initial.rows l.r l.rows
