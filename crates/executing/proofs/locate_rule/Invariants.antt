-- `executing::locate_rule` meets its contract. The invariant Locating: the functions before k are noted at their targets, the next starts at f, and the
-- words of the rules before stay. Targets of one rule differ, so none is written over. Assumes nothing.
use Rattle.executing.proofs.LocatedLaws.{Locating}
use Rattle.executing.proofs.locate_rule.Given as goal

abbrev pub invariant-loop-k : goal.invariant-loop-k
invariant-loop-k l = Locating l.table.words.now l.r l.initial.starts l.starts l.f l.k l.k-end
