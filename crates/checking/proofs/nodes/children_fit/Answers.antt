-- `checking::nodes::children_fit` meets its contract: the slots that a rule's right length counts are those that the node uses, and a terminal uses none.
-- Assumes nothing.
use Rattle.checking.proofs.NodeTestLaws.{below_of_known, few_rules, length_room, rule_slots, children_rule, children_terminal}
use Rattle.checking.proofs.nodes.children_fit.Goals as goal

pub rule_at-p-requires : goal.rule_at-p-requires
rule_at-p-requires c = search (few_rules, below_of_known)

pub right_length-requires : goal.right_length-requires
right_length-requires c = search (length_room, below_of_known)

pub slots_match-requires-clause-all_slots : goal.slots_match-requires-clause-all_slots
slots_match-requires-clause-all_slots c = search rule_slots

pub returns-then-r-lt-TERMINAL_MARK : goal.returns-then-r-lt-TERMINAL_MARK
returns-then-r-lt-TERMINAL_MARK c = search children_rule

pub returns : goal.returns
returns c = search children_terminal
