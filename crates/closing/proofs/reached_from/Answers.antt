-- The invariant: the members of the set are there, and all that those lead to which are no longer left.
use Rattle.bits.proofs.WalkLaws.{all_left}
use Rattle.closing.proofs.ReachLaws.{reaching_start, reaching_turn, reaching_finish}
use Rattle.closing.proofs.reached_from.Goals as goal

pub loop-b-init : goal.loop-b-init
loop-b-init c = search (reaching_start, all_left)

pub loop-b-preserved : goal.loop-b-preserved
loop-b-preserved c = search (reaching_turn, c.in-Some.ensures.steps)

pub returns : goal.returns
returns c = search (reaching_finish, c.in-None.ensures.steps)
