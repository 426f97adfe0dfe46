-- `reading::functions::word_by_word` meets its contract: the first word, the target and the operands are tested in the definition's order, and the
-- first of them that stops answers. Assumes nothing.
use Rattle.access.specs.ByPlace.{function_from}
use Rattle.grammar.proofs.VerdictLaws.{handed}
use Rattle.access.proofs.Laws.{stops}
use Rattle.reading.proofs.ChainLaws.{target_stops, operands_answer}
use Rattle.reading.proofs.functions.word_by_word.Goals as goal

pub returns-in_err-present : goal.returns-in_err-present
unfolding function_from
returns-in_err-present c = search (handed, stops, c.in_err-present.was, c.from_residual.ensures.1)

pub returns-in_err-target_fault : goal.returns-in_err-target_fault
returns-in_err-target_fault c = search (handed, target_stops, c.in_ok-present.was, c.in_err-target_fault.was, c.from_residual-in_err-target_fault.ensures.1)

pub returns : goal.returns
returns c = search (operands_answer, c.in_ok-present.was, c.in_ok-target_fault.was)
