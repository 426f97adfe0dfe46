-- `access::attribute_set` meets its contract: the attributes of a symbol are the numbers below their count. Assumes nothing.
use mathlib.Core.Path.{◌∙◌, ap}
use Rattle.bits.specs.Bit.{below}
use Rattle.access.proofs.attribute_set.Goals as goal

pub returns : goal.returns
returns c = c.below.ensures ∙ ap below c.attributes.ensures.value
