-- `checking::by_walks` meets its contract: each test that fails is the first that does, since those before it passed. Assumes nothing.
use Rattle.checking.proofs.WholeCheckLaws.{left_err, some_node, few_nodes, nodes_start, nodes_more, children_start, children_next, names_start, names_more, root_known, known_all, passed_15, answer_13, answer_15, answer_16, answer_17, answer_18}
use borrow.Author.Rules.{rules}
use Rattle.checking.proofs.by_walks.Goals as goal

pub loop-n-init : goal.loop-n-init
loop-n-init c = search nodes_start

pub node_fault-requires : goal.node_fault-requires
node_fault-requires c = (search (few_nodes, rules), search rules)

pub returns-in_err-node_fault : goal.returns-in_err-node_fault
returns-in_err-node_fault c = left_err _ _ _ c.from_residual.ensures.1 (search (answer_13, c.in_err-node_fault.was))

pub loop-n-preserved : goal.loop-n-preserved
loop-n-preserved c = search (nodes_more, c.in_ok-node_fault.was)

pub symbol_at_node-requires-clause-known : goal.symbol_at_node-requires-clause-known
symbol_at_node-requires-clause-known c = search root_known

pub symbol_at_node-requires-clause-n_lt_most_nodes : goal.symbol_at_node-requires-clause-n_lt_most_nodes
symbol_at_node-requires-clause-n_lt_most_nodes c = (search rules, search some_node)

pub returns-then-symbol_at_node-start : goal.returns-then-symbol_at_node-start
returns-then-symbol_at_node-start c = search answer_15

pub loop-n-2-init : goal.loop-n-2-init
loop-n-2-init c = search children_start

pub child_fault-requires-clause-known : goal.child_fault-requires-clause-known
child_fault-requires-clause-known c = search known_all

pub returns-in_err-child_fault : goal.returns-in_err-child_fault
returns-in_err-child_fault c = left_err _ _ _ c.from_residual-in_err-child_fault.ensures.1 (search (answer_16, passed_15, c.in_err-child_fault.was))

pub loop-n-2-preserved : goal.loop-n-2-preserved
loop-n-2-preserved c = search (children_next, c.in_ok-child_fault.was)

pub count_names-named-requires-clause-known : goal.count_names-named-requires-clause-known
count_names-named-requires-clause-known c = search known_all

pub loop-n-3-init : goal.loop-n-3-init
loop-n-3-init c = search (names_start, some_node)

pub bounds-named-n : goal.bounds-named-n
bounds-named-n c = search (few_nodes, rules)

pub returns-then-named-n-ne1 : goal.returns-then-named-n-ne1
returns-then-named-n-ne1 c = search (answer_17, passed_15, few_nodes)

pub loop-n-3-preserved : goal.loop-n-3-preserved
loop-n-3-preserved c = search names_more

pub values_fault-requires : goal.values_fault-requires
values_fault-requires c = search few_nodes

pub returns : goal.returns
returns c = search (answer_18, passed_15, few_nodes)
