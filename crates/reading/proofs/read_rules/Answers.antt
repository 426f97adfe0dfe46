-- `reading::read_rules` meets its contract. The invariant AtRule: the rules before r passed, rule r starts at p, the set says whether rule r - 1 is
-- complete, and the offsets of the rules before r stand. Counts that passed keep p below 99 + 394 r, so an offset fits 16 bits. Assumes nothing.
use native.Mathlib.Omega.{arith}
use Rattle.reading.proofs.RuleLoop.{symbols_formed, start, turn, rule_stops, ending_stops, all_read}
use Rattle.reading.proofs.read_rules.Goals as goal

pub loop-r-init : goal.loop-r-init
loop-r-init c = search start

pub read_rule-requires-clause-p_bound : goal.read_rule-requires-clause-p_bound
read_rule-requires-clause-p_bound c = omega arith

pub read_rule-requires-clause-symbols : goal.read_rule-requires-clause-symbols
read_rule-requires-clause-symbols c = search symbols_formed

pub returns-in_err-rule : goal.returns-in_err-rule
returns-in_err-rule c = search (rule_stops, c.in_err-rule.ensures, c.from_residual.ensures.1)

pub loop-r-preserved : goal.loop-r-preserved
loop-r-preserved c = search (turn, c.in_ok-rule.ensures)

pub returns-in_err-ending_fault : goal.returns-in_err-ending_fault
returns-in_err-ending_fault c =
    search (ending_stops, c.in_err-ending_fault.was, c.from_residual-in_err-ending_fault.ensures.1)

pub returns : goal.returns
returns c = search (all_read, c.in_ok-ending_fault.was)
