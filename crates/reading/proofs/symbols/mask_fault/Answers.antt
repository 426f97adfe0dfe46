-- `reading::symbols::mask_fault` meets its contract: the range is tested before the class. A symbol has eight attributes at most, so 2 to their
-- number is a word. Assumes nothing.
use Rattle.grammar.proofs.VerdictLaws.{handed}
use Rattle.access.proofs.Laws.{stops, passes, ranged_of, mask_of, unless_of}
use Rattle.reading.specs.Parts.{mask_fault}
use Rattle.reading.proofs.symbols.mask_fault.Goals as goal

pub returns-in_err-ranged : goal.returns-in_err-ranged
unfolding mask_fault
returns-in_err-ranged c = search (handed, stops, ranged_of, mask_of, c.in_err-ranged.was, c.from_residual.ensures.1) depth 7

pub returns : goal.returns
unfolding mask_fault
returns c = search (passes, ranged_of, mask_of, unless_of, c.in_ok-ranged.was) depth 7
