-- `remaining::part_by_visit` meets its contract. After a turns the word holds those of the first a attributes.
-- Assumes nothing.
use borrow.Author.Rules.{rules}
use Rattle.remaining.proofs.PartLaws.{parting_start, parting_set, parting_place, parting_turn, parting_finish}
use Rattle.remaining.proofs.part_by_visit.Goals as goal

pub loop-a-init : goal.loop-a-init
loop-a-init c = search parting_start

pub overflow_sub-visits : goal.overflow_sub-visits
overflow_sub-visits c = search (parting_set, rules)

pub put-part-requires : goal.put-part-requires
put-part-requires c = search (parting_place, rules)

pub loop-a-preserved : goal.loop-a-preserved
loop-a-preserved c = search parting_turn

pub returns : goal.returns
returns c = search (parting_finish, rules)
