-- `reading::rules::right_fault` meets its contract: the invariant AtSymbol is that the symbols before i passed. Assumes nothing.
use Rattle.grammar.proofs.VerdictLaws.{handed}
use Rattle.reading.proofs.ChainLaws.{start, turn, symbol_stops, symbols_end}
use Rattle.reading.proofs.rules.right_fault.Goals as goal

pub loop-i-init : goal.loop-i-init
loop-i-init c = search start

pub returns-in_err-ranged : goal.returns-in_err-ranged
returns-in_err-ranged c = search (handed, symbol_stops, c.in_err-ranged.was, c.from_residual.ensures.1)

pub loop-i-preserved : goal.loop-i-preserved
loop-i-preserved c = search (turn, c.in_ok-ranged.was)

pub returns : goal.returns
returns c = search symbols_end
