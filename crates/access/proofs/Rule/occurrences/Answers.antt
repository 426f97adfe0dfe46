-- `access::Rule::occurrences` meets its contract. After i turns the set holds the occurrences of the positions up to i, each a block of eight bits;
-- a well-formed symbol fills no more than its block, and past the last position nothing stands. Assumes nothing.
use Rattle.access.proofs.Blocks.{attributes_left, attributes_at, block_at, place_inside, occurrences_start, occurrences_more, occurrences_end}
use Rattle.access.proofs.Rule.occurrences.Goals as goal

pub attribute_set-set-requires-clause-few_attributes : goal.attribute_set-set-requires-clause-few_attributes
attribute_set-set-requires-clause-few_attributes c = search attributes_left

pub loop-i-init : goal.loop-i-init
loop-i-init c = search occurrences_start

pub attribute_set-block-requires-clause-few_attributes : goal.attribute_set-block-requires-clause-few_attributes
attribute_set-block-requires-clause-few_attributes c = search attributes_at

pub placed-requires-clause-attributes_bound : goal.placed-requires-clause-attributes_bound
placed-requires-clause-attributes_bound c = search block_at

pub placed-requires-clause-i_bound : goal.placed-requires-clause-i_bound
placed-requires-clause-i_bound c = search place_inside

pub loop-i-preserved : goal.loop-i-preserved
loop-i-preserved c = search occurrences_more

pub returns : goal.returns
returns c = search occurrences_end
