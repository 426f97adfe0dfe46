-- `checking::nodes::child_fits` meets its contract: a used slot names a node that the first walk found known, so its symbol can be read, and the test is
-- whether that is the symbol of the slot in the rule.
-- Assumes nothing.
use Rattle.checking.proofs.NodeTestLaws.{child_known, child_few, child_inside, slot_room, child_test_law}
use Rattle.checking.proofs.nodes.child_fits.Goals as goal

pub symbol_at_node-requires-clause-known : goal.symbol_at_node-requires-clause-known
symbol_at_node-requires-clause-known c = search child_known

pub symbol_at_node-requires-clause-n_lt_most_nodes : goal.symbol_at_node-requires-clause-n_lt_most_nodes
symbol_at_node-requires-clause-n_lt_most_nodes c = (search child_few, search child_inside)

pub known-requires-2 : goal.known-requires-2
known-requires-2 c = search slot_room

pub returns : goal.returns
returns c = search child_test_law
