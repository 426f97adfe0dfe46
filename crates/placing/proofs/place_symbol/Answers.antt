-- The invariant: after k sets the words and what is left are those of the definition.
use borrow.Author.Rules.{rules}
use Rattle.placing.proofs.StepLaws.{stepping_start, taken_fits, stepping_turn, stepping_finish}
use Rattle.placing.proofs.place_symbol.Goals as goal

pub loop-k-init : goal.loop-k-init
loop-k-init c = search stepping_start

pub number_set-requires : goal.number_set-requires
number_set-requires c = search (taken_fits, rules)

pub loop-k-preserved : goal.loop-k-preserved
loop-k-preserved c = search stepping_turn depth 8

pub returns : goal.returns
returns c = search stepping_finish
