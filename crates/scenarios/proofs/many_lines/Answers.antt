-- `scenarios::many_lines` puts the root, then a rule and its line a turn, then the last two nodes: after k turns k lines stand. Assumes nothing.
use borrow.Author.Rules.{rules}
use Rattle.scenarios.proofs.NodeLaws.{lines_start, lines_turn, lines_end}
use Rattle.scenarios.proofs.many_lines.Goals as goal

pub loop-k-init : goal.loop-k-init
loop-k-init c = search (lines_start, rules)

pub loop-k-preserved : goal.loop-k-preserved
loop-k-preserved c = search (lines_turn, rules)

pub returns : goal.returns
returns c = search lines_end
