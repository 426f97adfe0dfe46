-- `scenarios::long_chain` puts the root, then a link a turn, then the last node: after k turns k links stand. Assumes nothing.
use borrow.Author.Rules.{rules}
use Rattle.scenarios.proofs.NodeLaws.{links_start, links_turn, links_end}
use Rattle.scenarios.proofs.long_chain.Goals as goal

pub loop-k-init : goal.loop-k-init
loop-k-init c = search (links_start, rules)

pub loop-k-preserved : goal.loop-k-preserved
loop-k-preserved c = search (links_turn, rules)

pub returns : goal.returns
returns c = search links_end
