-- `reading::rules::shape_fault` meets its contract: the length, the symbols and the number of functions are tested in this order. Assumes nothing.
use Rattle.grammar.proofs.VerdictLaws.{handed}
use Rattle.reading.proofs.ChainLaws.{length_stops, right_stops, count_answers}
use Rattle.reading.proofs.rules.shape_fault.Goals as goal

pub returns-in_err-ranged : goal.returns-in_err-ranged
returns-in_err-ranged c = search (handed, length_stops, c.in_err-ranged.was, c.from_residual.ensures.1)

pub returns-in_err-right_fault : goal.returns-in_err-right_fault
returns-in_err-right_fault c = search (handed, right_stops, c.in_ok-ranged.was, c.in_err-right_fault.was, c.from_residual-in_err-right_fault.ensures.1)

pub returns : goal.returns
returns c = search (count_answers, c.in_ok-ranged.was, c.in_ok-right_fault.was)
