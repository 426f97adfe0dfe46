-- `lister::Page::rule_line` meets its contract: its word, its number, its actions and a line feed are typed one after the other. Assumes nothing.
use Rattle.lister.proofs.PlanLaws.{actions_start, actions_turn, rule_line_typed}
use Rattle.lister.proofs.Page.rule_line.Goals as goal

pub loop-j-init : goal.loop-j-init
loop-j-init c = search actions_start

pub loop-j-preserved : goal.loop-j-preserved
loop-j-preserved c = search actions_turn

pub returns : goal.returns
returns c = search rule_line_typed
