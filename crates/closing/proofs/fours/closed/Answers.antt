-- The invariant: the rows are those of rows in which paths meet at each of the first i of the four.
use borrow.Author.Rules.{rules}
use Rattle.closing.proofs.FourClosing.{four_start, four_closing_turn, four_done}
use Rattle.closing.proofs.fours.closed.Goals as goal

pub loop-i-init : goal.loop-i-init
loop-i-init c = (search rules, search four_start)

pub loop-i-preserved : goal.loop-i-preserved
loop-i-preserved c = (search rules, search four_closing_turn)

pub returns : goal.returns
returns c = search four_done
