-- `reading::functions::target_fault` meets its contract: 4 is tested before 5, as the definition has it. Assumes nothing.
use Rattle.grammar.proofs.VerdictLaws.{handed}
use Rattle.access.proofs.Laws.{stops, passes, unless_of}
use Rattle.reading.specs.Parts.{target_fault}
use Rattle.reading.proofs.functions.target_fault.Goals as goal

pub returns-in_err-unless : goal.returns-in_err-unless
unfolding target_fault
returns-in_err-unless c = search (handed, stops, unless_of, c.in_err-unless.was, c.from_residual.ensures.1)

pub returns : goal.returns
unfolding target_fault
returns c = search (passes, unless_of, c.in_ok-unless.was)
