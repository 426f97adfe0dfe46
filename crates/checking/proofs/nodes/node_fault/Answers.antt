-- `checking::nodes::node_fault` meets its contract: 13 is tested first, and only a node whose word is known has slots to count for 14.
-- Assumes nothing.
use Rattle.checking.proofs.NodeTestLaws.{known_of, node_good, node_child, node_unknown}
use borrow.Author.Tests.{not-false}
use Rattle.checking.proofs.nodes.node_fault.Goals as goal

pub returns-then-not-known_word : goal.returns-then-not-known_word
returns-then-not-known_word c = search node_unknown

pub used_slots-requires-clause-known : goal.used_slots-requires-clause-known
used_slots-requires-clause-known c = search (known_of, not-false)

pub returns-then-not-slots_fit : goal.returns-then-not-slots_fit
returns-then-not-slots_fit c = search node_child

pub returns : goal.returns
returns c = search node_good
