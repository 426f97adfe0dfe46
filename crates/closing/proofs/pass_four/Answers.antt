-- The middles are closed among themselves, and every row gets the union for those that it leads to.
use Rattle.closing.proofs.PassLaws.{first_anew}
use Rattle.closing.proofs.ClosureLaws.{four_step}
use Rattle.closing.proofs.pass_four.Goals as goal

pub returns : goal.returns
returns c = search (four_step, first_anew)
