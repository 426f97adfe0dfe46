-- `executing::execute` meets its contract. The invariant LoopAt: the arrays hold the automaton after as many steps as the loop has made, the node on top is
-- at the plan's word `at`, and its place is the word's distance from where its sequence starts. A budget used up with a node on top says that the total
-- is not reached; a leave that finds no node below says that it is. Assumes nothing.
use Rattle.executing.proofs.RunLaws.{AtTurn}
use Rattle.executing.proofs.execute.Given as goal

abbrev pub invariant-loop-spent : goal.invariant-loop-spent
invariant-loop-spent l = AtTurn l.table.words.now l.plan l.tree l.starts l.initial.values l.stack l.places l.top l.values l.spent l.budget
