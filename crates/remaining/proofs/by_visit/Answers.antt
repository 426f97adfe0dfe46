-- `remaining::by_visit` meets its contract. After x turns the table has the words of the first x symbols. Assumes nothing.
use borrow.Author.Rules.{rules}
use Rattle.remaining.proofs.PartLaws.{tabling_start, tabling_few, tabling_turn, tabling_finish}
use Rattle.remaining.proofs.by_visit.Goals as goal

pub loop-x-init : goal.loop-x-init
loop-x-init c = search (tabling_start, rules)

pub part_by_visit-requires-clause-visits_bound : goal.part_by_visit-requires-clause-visits_bound
part_by_visit-requires-clause-visits_bound c = search tabling_few

pub part_by_visit-requires-in-loop-x-clause-visits_bound : goal.part_by_visit-requires-in-loop-x-clause-visits_bound
part_by_visit-requires-in-loop-x-clause-visits_bound c = search tabling_few

pub symbol_visits-requires-clause-visits_bound : goal.symbol_visits-requires-clause-visits_bound
symbol_visits-requires-clause-visits_bound c = search tabling_few

pub loop-x-preserved : goal.loop-x-preserved
loop-x-preserved c = search tabling_turn

pub returns : goal.returns
returns c = search tabling_finish
