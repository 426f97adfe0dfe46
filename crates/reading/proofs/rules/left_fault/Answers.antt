-- `reading::rules::left_fault` meets its contract: the range of the left symbol is tested before its class. Assumes nothing.
use Rattle.access.specs.ByPlace.{left_from}
use Rattle.grammar.proofs.VerdictLaws.{handed}
use Rattle.access.proofs.Laws.{stops, passes, ranged_of, ltb_of, unless_of, nonterminal_of}
use Rattle.reading.proofs.rules.left_fault.Goals as goal

pub returns-in_err-ranged : goal.returns-in_err-ranged
unfolding left_from
returns-in_err-ranged c = search (handed, stops, ranged_of, ltb_of, c.in_err-ranged.was, c.from_residual.ensures.1) depth 7

pub returns : goal.returns
unfolding left_from
returns c = search (passes, ranged_of, ltb_of, unless_of, nonterminal_of, c.in_ok-ranged.was) depth 7
