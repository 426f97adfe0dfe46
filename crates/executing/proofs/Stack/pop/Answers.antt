-- `executing::Stack::pop` meets its contract: the last frame is the one at the depth below. Assumes nothing.
use Rattle.executing.proofs.StateLaws.{frame_popped}
use Rattle.executing.proofs.Stack.pop.Goals as goal

pub returns : goal.returns
returns c = frame_popped _ _ c.if-self-eq0.false
