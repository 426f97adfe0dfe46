-- `executing::function_starts` meets its contract. The invariant AllLocated: the functions of the rules before r are noted; each rule has 64 words of
-- its own, so the next rule leaves them as they are. Assumes nothing.
use Rattle.executing.proofs.LocatedLaws.{all_start, next_known, all_turn, all_finish}
use Rattle.executing.proofs.function_starts.Goals as goal

pub loop-r-init : goal.loop-r-init
loop-r-init c = search all_start

pub locate_rule-requires : goal.locate_rule-requires
locate_rule-requires c = search next_known

pub loop-r-preserved : goal.loop-r-preserved
loop-r-preserved c = search all_turn

pub returns : goal.returns
returns c = search all_finish
