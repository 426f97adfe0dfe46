-- `bits::put` meets its contract: the set with i where the test holds, else the set as it is. Assumes nothing.
use Rattle.bits.proofs.SetLaws.{put_yes}
use Rattle.bits.proofs.put.Goals as goal

pub returns-then-holds : goal.returns-then-holds
returns-then-holds c = search put_yes
