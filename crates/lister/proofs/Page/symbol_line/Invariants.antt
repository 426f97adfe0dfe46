-- `lister::Page::symbol_line` meets its contract: the invariant is that the sets of the attributes before a are typed. Assumes nothing.
use Rattle.lister.proofs.PlanLaws.{SetsTo}
use Rattle.lister.proofs.Page.symbol_line.Given as goal

abbrev pub invariant-loop-a : goal.invariant-loop-a
invariant-loop-a l = SetsTo l.plan l.x l.a-end l.fn.self l.a l.self
