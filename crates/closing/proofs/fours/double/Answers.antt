-- The invariant: as many of the unions as the loop has gone through stand once more, with the row.
use borrow.Author.Rules.{rules}
use Rattle.closing.proofs.FourLaws.{doubled_start, doubled_turn, doubled_finish}
use Rattle.closing.proofs.fours.double.Goals as goal

pub loop-s-init : goal.loop-s-init
loop-s-init c = (search rules, search doubled_start)

pub loop-s-preserved : goal.loop-s-preserved
loop-s-preserved c = (search rules, search doubled_turn)

pub returns : goal.returns
returns c = search doubled_finish
