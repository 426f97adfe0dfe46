-- `lister::Page::symbol_line` meets its contract: a terminal has no line; and a nonterminal's is its word, its numbers and a line feed. Assumes nothing.
use Rattle.lister.proofs.PlanLaws.{symbol_skipped, sets_start, sets_turn, symbol_line_typed}
use Rattle.lister.proofs.Page.symbol_line.Goals as goal

pub returns-then-not-nonterminal : goal.returns-then-not-nonterminal
returns-then-not-nonterminal c = search symbol_skipped

pub loop-a-init : goal.loop-a-init
loop-a-init c = search sets_start

pub loop-a-preserved : goal.loop-a-preserved
loop-a-preserved c = search sets_turn

pub returns : goal.returns
returns c = search symbol_line_typed
