-- `sequencing::next` meets its contract. Each of the three sets has exactly the actions of its kind that are ready, and some action always is: so the
-- lowest member of the first set that is not empty is the lowest ready action. Assumes nothing.
use borrow.Author.Rules.{rules}
use Rattle.sequencing.proofs.GivenLaws.{left_low, rows_room, rows_closed}
use Rattle.sequencing.proofs.NextLaws.{
  along_kept,
  along_next,
  next_compute,
  next_visit,
  visit_child,
  visit_few,
  next_leave,
  leaves_left,
  leave_ready_then,
  leave_inside,
}
use Rattle.sequencing.proofs.next.Goals as goal

pub compute_first-requires-clause-most_occurrences_in_bounds : goal.compute_first-requires-clause-most_occurrences_in_bounds
compute_first-requires-clause-most_occurrences_in_bounds c = search rows_room

pub compute_first-requires-clause-rows_closed : goal.compute_first-requires-clause-rows_closed
compute_first-requires-clause-rows_closed c = search rows_closed

pub returns-then-ready-ne0-clause-taken : goal.returns-then-ready-ne0-clause-taken
returns-then-ready-ne0-clause-taken c = search next_compute

pub returns-then-ready-ne0-clause-along_2 : goal.returns-then-ready-ne0-clause-along_2
returns-then-ready-ne0-clause-along_2 c = search along_kept

pub visit-visited-requires-clause-b_bound : goal.visit-visited-requires-clause-b_bound
visit-visited-requires-clause-b_bound c = (search rules, search visit_few)

pub visit-visited-requires-clause-symbol_small : goal.visit-visited-requires-clause-symbol_small
visit-visited-requires-clause-symbol_small c = search visit_child

pub unblocked-requires-clause-most_occurrences_in_bounds : goal.unblocked-requires-clause-most_occurrences_in_bounds
unblocked-requires-clause-most_occurrences_in_bounds c = search rows_room

pub unblocked-requires-clause-rows_closed : goal.unblocked-requires-clause-rows_closed
unblocked-requires-clause-rows_closed c = search rows_closed

pub returns-then-visits-ne0-clause-taken : goal.returns-then-visits-ne0-clause-taken
returns-then-visits-ne0-clause-taken c = search (next_visit, rules)

pub returns-then-visits-ne0-clause-along_2 : goal.returns-then-visits-ne0-clause-along_2
returns-then-visits-ne0-clause-along_2 c = search (along_next, rules)

pub ready_leaves-leaves-requires-clause-left_small : goal.ready_leaves-leaves-requires-clause-left_small
ready_leaves-leaves-requires-clause-left_small c = search left_low

pub ready_leaves-leaves-requires-clause-few_leaves : goal.ready_leaves-leaves-requires-clause-few_leaves
ready_leaves-leaves-requires-clause-few_leaves c = search leaves_left

pub first-requires-2 : goal.first-requires-2
first-requires-2 c = search (leave_ready_then, rules)

pub leave-left-requires-clause-b_bound : goal.leave-left-requires-clause-b_bound
leave-left-requires-clause-b_bound c = search leave_inside

pub leave-left-requires-clause-left_small : goal.leave-left-requires-clause-left_small
leave-left-requires-clause-left_small c = search left_low

pub unblocked-requires-2-clause-most_occurrences_in_bounds : goal.unblocked-requires-2-clause-most_occurrences_in_bounds
unblocked-requires-2-clause-most_occurrences_in_bounds c = search rows_room

pub unblocked-requires-2-clause-rows_closed : goal.unblocked-requires-2-clause-rows_closed
unblocked-requires-2-clause-rows_closed c = search rows_closed

pub returns-clause-taken : goal.returns-clause-taken
returns-clause-taken c = search (next_leave, rules)

pub returns-clause-along_2 : goal.returns-clause-along_2
returns-clause-along_2 c = search along_kept
