-- `access::Rule::definings` meets its contract. After i turns the set holds the defining occurrences of the positions up to i: on the left what is not
-- inherited, on the right the masks, which fit their blocks. Assumes nothing.
use Rattle.access.proofs.Blocks.{attributes_left, mask_at, place_inside, definings_start, definings_more, definings_end}
use Rattle.access.proofs.Rule.definings.Goals as goal

pub attribute_set-requires-clause-few_attributes : goal.attribute_set-requires-clause-few_attributes
attribute_set-requires-clause-few_attributes c = search attributes_left

pub loop-i-init : goal.loop-i-init
loop-i-init c = search definings_start

pub placed-requires-clause-attributes_bound : goal.placed-requires-clause-attributes_bound
placed-requires-clause-attributes_bound c = search mask_at

pub placed-requires-clause-i_bound : goal.placed-requires-clause-i_bound
placed-requires-clause-i_bound c = search place_inside

pub loop-i-preserved : goal.loop-i-preserved
loop-i-preserved c = search definings_more

pub returns : goal.returns
returns c = search definings_end
