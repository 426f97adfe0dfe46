-- `scenarios::put_line` puts a node and its line behind it, as the definition does. Assumes nothing.
use Rattle.scenarios.proofs.NodeLaws.{line_holds}
use Rattle.scenarios.proofs.put_line.Goals as goal

pub returns : goal.returns
returns c = search line_holds
