-- `bits::end` meets its contract: what is below the zeros above the highest member is its place and one more. Assumes nothing.
use mathlib.Core.Path.{refl}
use Rattle.bits.proofs.LowestLaws.{zeros_fit, end_of}
use Rattle.bits.proofs.end.Goals as goal

pub overflow_sub-result : goal.overflow_sub-result
overflow_sub-result c = zeros_fit c.args.set _ refl

pub returns : goal.returns
returns c = search end_of
