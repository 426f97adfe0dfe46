-- `lister::Page::plan_lines` meets its contract: the lines of the symbols before x are typed, and then those of the rules before r. Assumes nothing.
use Rattle.lister.proofs.PlanLaws.{SymbolsTo, RulesTo}
use Rattle.lister.proofs.Page.plan_lines.Given as goal

abbrev pub invariant-loop-x : goal.invariant-loop-x
invariant-loop-x l = SymbolsTo l.words l.plan l.x-end l.fn.self l.x l.self

abbrev pub invariant-loop-r : goal.invariant-loop-r
invariant-loop-r l = RulesTo l.words l.plan l.r-end l.fn.self l.r l.self
