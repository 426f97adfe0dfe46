-- `remaining::leave` meets its contract: the leave is taken out, and what the parent hands down next no longer waits. Assumes nothing.
use Rattle.remaining.proofs.LeftLaws.{leave_answer}
use Rattle.remaining.proofs.State.leave.Goals as goal

pub returns : goal.returns
returns c = search leave_answer
