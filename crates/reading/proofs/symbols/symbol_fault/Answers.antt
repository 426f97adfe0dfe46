-- `reading::symbols::symbol_fault` meets its contract: the tests stand in the definition's order, and the mask is tested once the count is at most 8.
-- Assumes nothing.
use Rattle.grammar.proofs.VerdictLaws.{handed}
use Rattle.reading.proofs.ChainLaws.{kind_stops, count_stops, count_fits, mask_answers}
use Rattle.reading.proofs.symbols.symbol_fault.Goals as goal

pub returns-in_err-ranged : goal.returns-in_err-ranged
returns-in_err-ranged c = search (handed, kind_stops, c.in_err-ranged.was, c.from_residual.ensures.1)

pub returns-in_err-ranged-2 : goal.returns-in_err-ranged-2
returns-in_err-ranged-2 c = search (handed, count_stops, c.in_ok-ranged.was, c.in_err-ranged-2.was, c.from_residual-in_err-ranged-2.ensures.1)

pub mask_fault-requires-clause-few : goal.mask_fault-requires-clause-few
mask_fault-requires-clause-few c = count_fits _ _ _ _ _ c.ranged-2.ensures c.in_ok-ranged-2.was c.attributes.ensures.value

pub returns : goal.returns
returns c = search (mask_answers, c.in_ok-ranged.was, c.in_ok-ranged-2.was)
