-- `reading::rules::ending_fault` meets its contract: 6 of the last rule is tested before 7. Assumes nothing.
use Rattle.grammar.proofs.VerdictLaws.{handed}
use Rattle.access.proofs.Laws.{stops, passes}
use Rattle.reading.specs.Parts.{ending_fault}
use Rattle.reading.proofs.rules.ending_fault.Goals as goal

pub returns-in_err-rule_before : goal.returns-in_err-rule_before
unfolding ending_fault
returns-in_err-rule_before c = search (handed, stops, c.in_err-rule_before.was, c.from_residual.ensures.1)

pub returns : goal.returns
unfolding ending_fault
returns c = search (passes, c.in_ok-rule_before.was)
