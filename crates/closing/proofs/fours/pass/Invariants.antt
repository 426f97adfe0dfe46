-- The invariant: as many rows as the loop has gone through are written anew, and the others are as they were.
use Rattle.closing.specs.Closure.{Anew}
use Rattle.closing.specs.Fours.{row_by_four}
use Rattle.closing.proofs.fours.pass.Given as goal

abbrev pub invariant-loop-row : goal.invariant-loop-row
invariant-loop-row l = Anew l.initial.rows (row_by_four l.k l.unions) l.row-index l.rows
