-- `checking::nodes::symbol_at_node` meets its contract: a known word below 32,768 is a rule, and its first word is the node's symbol; else the word itself names a terminal.
-- Assumes nothing.
use Rattle.checking.proofs.NodeTestLaws.{known_below, left_room, few_rules, symbol_rule, symbol_terminal}
use Rattle.checking.proofs.nodes.symbol_at_node.Goals as goal

pub rule_at-requires : goal.rule_at-requires
rule_at-requires c = search (few_rules, known_below)

pub known-requires : goal.known-requires
known-requires c = search (left_room, known_below)

pub returns-then-r-lt-TERMINAL_MARK : goal.returns-then-r-lt-TERMINAL_MARK
returns-then-r-lt-TERMINAL_MARK c = search (symbol_rule, known_below)

pub returns : goal.returns
returns c = search symbol_terminal
