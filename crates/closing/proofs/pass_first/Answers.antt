-- The first rows are written anew, the others are as they were.
use Rattle.closing.proofs.PassLaws.{first_anew}
use Rattle.closing.proofs.pass_first.Goals as goal

pub returns : goal.returns
returns c = search first_anew
