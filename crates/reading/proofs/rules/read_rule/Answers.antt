-- `reading::rules::read_rule` meets its contract: the left symbol, the rule before and the body are tested in this order. Assumes nothing.
use Rattle.reading.proofs.RuleLaws.{left_symbol_law, left_stops, before_stops, body_answers}
use Rattle.reading.proofs.rules.read_rule.Goals as goal

pub returns-in_err-left_fault : goal.returns-in_err-left_fault
returns-in_err-left_fault c = search (left_stops, c.in_err-left_fault.was, c.from_residual.ensures.1)

pub returns-in_err-rule_before : goal.returns-in_err-rule_before
returns-in_err-rule_before c =
    search (before_stops, c.in_ok-left_fault.was, c.in_err-rule_before.was, c.from_residual-in_err-rule_before.ensures.1)

pub read_body-requires-clause-left_small : goal.read_body-requires-clause-left_small
read_body-requires-clause-left_small c = search (left_symbol_law, c.in_ok-left_fault.was)

pub returns : goal.returns
returns c = search (body_answers, c.in_ok-left_fault.was, c.in_ok-rule_before.was)
