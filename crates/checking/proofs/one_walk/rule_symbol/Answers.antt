-- `checking::one_walk::rule_symbol` meets its contract: where the slots that are not used are empty and the others name new nodes above, the node
-- passes 13 and 14, and its symbol is the rule's first word. Assumes nothing.
use Rattle.checking.proofs.OneWalkLaws.{left_there, length_there, writes, rule_read, rule_filled, rule_refused, still_unsure}
use Rattle.checking.proofs.one_walk.rule_symbol.Goals as goal

pub right_length-used-requires : goal.right_length-used-requires
right_length-used-requires c = search length_there

pub returns-then-not-unused_empty : goal.returns-then-not-unused_empty
returns-then-not-unused_empty c = search rule_filled

pub write_children-requires : goal.write_children-requires
write_children-requires c = search writes

pub returns-in_err-write_children : goal.returns-in_err-write_children
returns-in_err-write_children c = still_unsure _ _ _ c.from_residual.ensures.0 (search (rule_refused, c.in_err-write_children.ensures))

pub known-requires : goal.known-requires
known-requires c = search left_there

pub returns : goal.returns
returns c = search (rule_read, c.in_ok-write_children.ensures)
