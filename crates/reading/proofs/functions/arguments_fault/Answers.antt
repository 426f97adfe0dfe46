-- `reading::functions::arguments_fault` meets its contract: the invariant is that the argument words before j passed. Assumes nothing.
use native.Mathlib.Omega.{arith}
use Rattle.grammar.proofs.VerdictLaws.{handed}
use Rattle.access.proofs.Laws.{each_none, each_more, each_stop, each_end, arguments_are}
use Rattle.reading.proofs.functions.arguments_fault.Goals as goal

pub loop-j-init : goal.loop-j-init
loop-j-init c = (omega arith, each_none _)

pub returns-in_err-argument_fault : goal.returns-in_err-argument_fault
returns-in_err-argument_fault c = search (handed, arguments_are, each_stop, c.in_err-argument_fault.was, c.from_residual.ensures.1)

pub loop-j-preserved : goal.loop-j-preserved
loop-j-preserved c = (omega arith, search (each_more, c.in_ok-argument_fault.was))

pub returns : goal.returns
returns c = search (arguments_are, each_end)
