-- `scenarios::put_node` writes a node's first three words: the three writes are the definition's. Assumes nothing.
use Rattle.scenarios.proofs.NodeLaws.{put_holds}
use Rattle.scenarios.proofs.put_node.Goals as goal

pub returns : goal.returns
returns c = search put_holds
