-- `checking::by_walks` meets its contract: each walk goes on past every node that passes, so the first that does not is the one that is answered.
-- Assumes nothing.
use Rattle.checking.proofs.WholeCheckLaws.{NodesPass, ChildrenPass, NamesPass}
use Rattle.checking.proofs.by_walks.Given as goal

abbrev pub invariant-loop-n : goal.invariant-loop-n
invariant-loop-n l = NodesPass l.table.words.now l.t l.n

abbrev pub invariant-loop-n-2 : goal.invariant-loop-n-2
invariant-loop-n-2 l = ChildrenPass l.table.words.now l.t l.n

abbrev pub invariant-loop-n-3 : goal.invariant-loop-n-3
invariant-loop-n-3 l = NamesPass l.table.words.now l.t l.named l.n
