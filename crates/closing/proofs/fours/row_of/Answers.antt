-- The number is a member and has its row, or it is none.
use Rattle.closing.proofs.FourLaws.{row_there, no_row}
use Rattle.closing.proofs.fours.row_of.Goals as goal

pub returns-then-has : goal.returns-then-has
returns-then-has c = search row_there

pub returns : goal.returns
returns c = search no_row
