-- `remaining::one_up` meets its contract: a shift by one place puts each member one up. Assumes nothing.
use Rattle.remaining.proofs.VisitSetLaws.{one_up_law}
use Rattle.remaining.proofs.one_up.Goals as goal

pub returns : goal.returns
returns c = search one_up_law
