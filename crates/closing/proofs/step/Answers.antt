-- One middle is closed already; of more than one, the step is that of the four.
use Rattle.closing.proofs.ClosureLaws.{lone_step}
use Rattle.closing.proofs.step.Goals as goal

pub returns-then-rest-eq0 : goal.returns-then-rest-eq0
returns-then-rest-eq0 c = search lone_step
