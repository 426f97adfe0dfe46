-- `lister::Page::rule_line` meets its contract: the invariant is that the actions before j are typed. Assumes nothing.
use Rattle.lister.proofs.PlanLaws.{ActionsTo}
use Rattle.lister.proofs.Page.rule_line.Given as goal

abbrev pub invariant-loop-j : goal.invariant-loop-j
invariant-loop-j l = ActionsTo l.plan l.r l.j-end l.fn.self l.j l.self
