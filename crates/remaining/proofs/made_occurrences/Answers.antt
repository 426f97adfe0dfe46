-- `remaining::made_occurrences` meets its contract. After i turns the set holds the occurrences of nonterminals at the positions below i.
-- Assumes nothing.
use borrow.Author.Rules.{rules}
use Rattle.remaining.proofs.BlockSetLaws.{making_start, making_small, making_block, making_place, making_turn, making_finish}
use Rattle.remaining.proofs.made_occurrences.Goals as goal

pub loop-i-init : goal.loop-i-init
loop-i-init c = search (making_start, rules)

pub made_attributes-there-requires-clause-few_attributes : goal.made_attributes-there-requires-clause-few_attributes
made_attributes-there-requires-clause-few_attributes c = search (making_small, rules)

pub raised-requires : goal.raised-requires
raised-requires c = (search making_block, search making_place)

pub loop-i-preserved : goal.loop-i-preserved
loop-i-preserved c = search (making_turn, rules)

pub returns : goal.returns
returns c = search making_finish
