-- `executing::execute` meets its contract. The invariant LoopAt: the arrays hold the automaton after as many steps as the loop has made, the node on top is
-- at the plan's word `at`, and its place is the word's distance from where its sequence starts. A budget used up with a node on top says that the total
-- is not reached; a leave that finds no node below says that it is. Assumes nothing.
use borrow.Author.Rules.{rules}
use Rattle.executing.proofs.RunLaws.{root_placed, loop_start, stopped_answer, stopped_values, valued, cell_there, child_placed, popped_there, turn_compute, turn_visit, popped_turn, done_answer, done_values, same_turn}
use Rattle.executing.proofs.execute.Goals.{in-Compute, in-Visit, in-Leave+in-Some}
use Rattle.executing.proofs.execute.Goals as goal

pub top_at-top-requires : goal.top_at-top-requires
top_at-top-requires c = (search root_placed, search rules)

pub loop-spent-init : goal.loop-spent-init
loop-spent-init c = loop_start _ _ _ _ _ c.args.table.now.accepted c.requires.sound c.requires.words_in_bounds c.requires.values_value c.function_starts.ensures c.top_at-top.ensures _

pub compute-requires-clause-valued : goal.compute-requires-clause-valued
compute-requires-clause-valued c = valued c.loop-spent.invariant c.loop-spent-test.true c.known-action.ensures.value c.in-Compute.ensures c.start_of.ensures.0

pub compute-requires-clause-o_in_bounds : goal.compute-requires-clause-o_in_bounds
compute-requires-clause-o_in_bounds c = cell_there c.loop-spent.invariant c.loop-spent-test.true c.known-action.ensures.value c.in-Compute.ensures

pub child_top-top-requires-clause-placed : goal.child_top-top-requires-clause-placed
child_top-top-requires-clause-placed c = child_placed c.loop-spent.invariant c.loop-spent-test.true c.known-action.ensures.value c.in-Visit.ensures

pub returns-in_default-clause-value : goal.returns-in_default-clause-value
returns-in_default-clause-value c = done_answer c.loop-spent.invariant c.loop-spent-test.true c.known-action.ensures.value c.in-Leave.ensures c.in_default.ensures

pub returns-in_default-clause-values_after : goal.returns-in_default-clause-values_after
returns-in_default-clause-values_after c = done_values c.loop-spent.invariant c.loop-spent-test.true c.known-action.ensures.value c.in-Leave.ensures c.in_default.ensures

pub resumed-top-requires : goal.resumed-top-requires
resumed-top-requires c = popped_there c.loop-spent.invariant c.loop-spent-test.true c.known-action.ensures.value c.in-Leave.ensures c.in-Some.ensures

pub loop-spent-preserved : goal.loop-spent-preserved
loop-spent-preserved c =
    elim c.match-from.branch [
      | in-Compute w ↦
          same_turn w.stack-is w.places-is w.top-is w.values-is
          (turn_compute c.loop-spent.invariant c.loop-spent-test.true c.known-action.ensures.value w.in-Compute.ensures w.start_of.ensures.0 w.compute.ensures)
      | in-Visit w ↦
          same_turn w.stack-is w.places-is w.top-is w.values-is
          (turn_visit c.loop-spent.invariant c.loop-spent-test.true c.known-action.ensures.value w.in-Visit.ensures w.push.ensures.depth_is w.push.ensures.nodes_are w.push.ensures.marks_are
          w.child_top-top.ensures)
      | in-Leave+in-Some w ↦
          same_turn w.stack-is w.places-is w.top-is w.values-is
          (popped_turn c.loop-spent.invariant c.loop-spent-test.true c.known-action.ensures.value w.in-Leave.ensures w.first_action.ensures w.in-Some.ensures w.resumed-top.ensures)
    ]

pub returns-clause-value : goal.returns-clause-value
returns-clause-value c = search stopped_answer

pub returns-clause-values_after : goal.returns-clause-values_after
returns-clause-values_after c = search stopped_values
