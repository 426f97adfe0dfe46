-- Each row that is put in doubles the table.
use Rattle.closing.proofs.FourLaws.{unions_four}
use Rattle.closing.proofs.fours.unions.Goals as goal

pub returns : goal.returns
returns c = search unions_four
