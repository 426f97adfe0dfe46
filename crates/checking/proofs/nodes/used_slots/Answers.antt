-- `checking::nodes::used_slots` meets its contract: a known word below 32,768 is a rule, and its right length says how many slots are used; a terminal uses none.
-- Assumes nothing.
use native.Mathlib.Omega.{arith}
use Rattle.checking.proofs.NodeTestLaws.{known_below, length_room, few_rules, used_rule, right_seven, used_none}
use Rattle.checking.proofs.nodes.used_slots.Goals as goal

pub rule_at-requires : goal.rule_at-requires
rule_at-requires c = search (few_rules, known_below)

pub right_length-requires : goal.right_length-requires
right_length-requires c = search (length_room, known_below)

pub returns-then-r-lt-TERMINAL_MARK-clause-value : goal.returns-then-r-lt-TERMINAL_MARK-clause-value
returns-then-r-lt-TERMINAL_MARK-clause-value c = search (used_rule, known_below)

pub returns-then-r-lt-TERMINAL_MARK-clause-upper_bound : goal.returns-then-r-lt-TERMINAL_MARK-clause-upper_bound
returns-then-r-lt-TERMINAL_MARK-clause-upper_bound c = search (right_seven, known_below)

pub returns-clause-value : goal.returns-clause-value
returns-clause-value c = search used_none

pub returns-clause-upper_bound : goal.returns-clause-upper_bound
returns-clause-upper_bound c = omega arith
