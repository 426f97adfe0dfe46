-- `reading::symbols::opening_fault` meets its contract: header, symbols and start symbol are tested in the definition's order. Assumes nothing.
use Rattle.grammar.proofs.VerdictLaws.{handed}
use Rattle.access.proofs.Laws.{stops, passes, each_of}
use Rattle.reading.specs.Parts.{opening_fault}
use Rattle.reading.proofs.symbols.opening_fault.Goals as goal

pub returns-in_err-header : goal.returns-in_err-header
unfolding opening_fault
returns-in_err-header c = search (handed, stops, c.in_err-header.was, c.from_residual.ensures.1)

pub returns-in_err-symbols_fault : goal.returns-in_err-symbols_fault
unfolding opening_fault
returns-in_err-symbols_fault c = search (handed, passes, stops, each_of, c.in_ok-header.was, c.in_err-symbols_fault.was, c.from_residual-in_err-symbols_fault.ensures.1)

pub returns : goal.returns
unfolding opening_fault
returns c = search (passes, each_of, c.in_ok-header.was, c.in_ok-symbols_fault.was)
