-- `executing::Stack::push` meets its contract: one frame is written, and the depth is one more. Assumes nothing.
use Rattle.executing.proofs.StateLaws.{frame_pushed}
use Rattle.executing.proofs.Stack.push.Goals as goal

pub returns : goal.returns
returns c = frame_pushed _ _ _ _
