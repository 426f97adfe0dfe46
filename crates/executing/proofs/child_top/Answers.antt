-- `executing::child_top` meets its contract: the child stands at its own place, and a node that can be on top has a place. Assumes nothing.
use borrow.Author.Rules.{rules}
use Rattle.executing.proofs.StateLaws.{placed_child, visited}
use Rattle.executing.proofs.child_top.Goals as goal

pub top_at-requires : goal.top_at-requires
top_at-requires c = (search placed_child, search rules)

pub returns : goal.returns
returns c = search visited
