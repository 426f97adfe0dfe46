-- The invariant: the first x symbols have their set words, and all other words are 0.
use borrow.Author.Rules.{rules}
use Rattle.placing.proofs.SetsLaws.{sets_start, next_formed, next_small, sets_turn, sets_finish}
use Rattle.placing.proofs.sets_of.Goals as goal

pub loop-x-init : goal.loop-x-init
loop-x-init c = search sets_start

pub bounds-ids-x : goal.bounds-ids-x
bounds-ids-x c = search next_small

pub place_nonterminal-requires : goal.place_nonterminal-requires
place_nonterminal-requires c = search (next_formed, next_small, rules)

pub loop-x-preserved : goal.loop-x-preserved
loop-x-preserved c = search sets_turn

pub returns : goal.returns
returns c = search sets_finish
