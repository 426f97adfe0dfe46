-- `lister::Page::plan_lines` meets its contract: the first line, those of the symbols and those of the rules stand one after the other. Assumes nothing.
use Rattle.lister.proofs.PlanLaws.{symbols_start, symbols_turn, rules_start, rules_turn, plan_lines_typed}
use Rattle.lister.proofs.Page.plan_lines.Goals as goal

pub loop-x-init : goal.loop-x-init
loop-x-init c = search symbols_start

pub loop-x-preserved : goal.loop-x-preserved
loop-x-preserved c = search symbols_turn

pub loop-r-init : goal.loop-r-init
loop-r-init c = search rules_start

pub loop-r-preserved : goal.loop-r-preserved
loop-r-preserved c = search rules_turn

pub returns : goal.returns
returns c = search plan_lines_typed
