-- The invariant: as many rows as the loop has gone through are written anew, and the others are as they were.
use borrow.Author.Rules.{rules}
use Rattle.closing.proofs.PassLaws.{anew_start, anew_turn}
use Rattle.closing.proofs.pass_rows.Goals as goal

pub loop-row-init : goal.loop-row-init
loop-row-init c = search anew_start

pub loop-row-preserved : goal.loop-row-preserved
loop-row-preserved c = search (anew_turn, rules)
