-- `reading::symbols::symbols_fault` meets its contract: the invariant is that the symbols before x passed. Assumes nothing.
use native.Mathlib.Omega.{arith}
use Rattle.grammar.proofs.VerdictLaws.{handed}
use Rattle.access.proofs.Laws.{each_none, each_more, each_stop, each_end}
use Rattle.reading.proofs.symbols.symbols_fault.Goals as goal

pub loop-x-init : goal.loop-x-init
loop-x-init c = (omega arith, each_none _)

pub returns-in_err-symbol_fault : goal.returns-in_err-symbol_fault
returns-in_err-symbol_fault c = search (handed, each_stop, c.in_err-symbol_fault.was, c.from_residual.ensures.1)

pub loop-x-preserved : goal.loop-x-preserved
loop-x-preserved c = (omega arith, search (each_more, c.in_ok-symbol_fault.was))

pub returns : goal.returns
returns c = search each_end
