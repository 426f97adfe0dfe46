-- The invariant: as many rows as the loop has gone through are written anew, and the others are as they were.
use Rattle.closing.specs.Closure.{row_by, Anew}
use Rattle.closing.proofs.pass_rows.Given as goal

abbrev pub invariant-loop-row : goal.invariant-loop-row
invariant-loop-row l = Anew l.initial.rows (row_by l.m l.onward) l.row-index l.rows
