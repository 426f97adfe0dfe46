-- `reading::functions::operands_fault` meets its contract: the arguments are read once the operation is one. Assumes nothing.
use Rattle.grammar.proofs.VerdictLaws.{handed}
use Rattle.access.proofs.Laws.{stops, passes, ranged_of, leb_of}
use Rattle.reading.specs.Parts.{operands_fault}
use Rattle.reading.proofs.functions.operands_fault.Goals as goal

pub returns-in_err-ranged : goal.returns-in_err-ranged
unfolding operands_fault
returns-in_err-ranged c = search (handed, stops, ranged_of, leb_of, c.in_err-ranged.was, c.from_residual.ensures.1) depth 7

pub returns : goal.returns
unfolding operands_fault
returns c = search (passes, ranged_of, leb_of, c.in_ok-ranged.was)
