-- `sequencing::words_of` meets its contract. After j turns the first j actions of the sequence are written, and the construction over what is
-- left gives the others. The ones of the three sets count the turns. Assumes nothing.
use borrow.Author.Rules.{rules}
use Rattle.sequencing.proofs.WritingLaws.{shaped_given, writing_start, writing_left, writing_turn, writing_finish}
use Rattle.sequencing.proofs.GivenLaws.{tabled_given, rows_room, rows_closed}
use Rattle.sequencing.proofs.words_of.Goals as goal

pub start-state-requires-clause-shaped : goal.start-state-requires-clause-shaped
start-state-requires-clause-shaped c = search shaped_given

pub start-state-requires-clause-tabled : goal.start-state-requires-clause-tabled
start-state-requires-clause-tabled c = search tabled_given

pub unblocked-ready-requires-clause-most_occurrences_in_bounds : goal.unblocked-ready-requires-clause-most_occurrences_in_bounds
unblocked-ready-requires-clause-most_occurrences_in_bounds c = search rows_room

pub unblocked-ready-requires-clause-rows_closed : goal.unblocked-ready-requires-clause-rows_closed
unblocked-ready-requires-clause-rows_closed c = search rows_closed

pub loop-j-init : goal.loop-j-init
loop-j-init c = search writing_start

pub next-turn-requires-clause-some_left : goal.next-turn-requires-clause-some_left
next-turn-requires-clause-some_left c = search (writing_left, rules)

pub loop-j-preserved : goal.loop-j-preserved
loop-j-preserved c = search (writing_turn, rules)

pub returns : goal.returns
returns c = search (writing_finish, rules)
