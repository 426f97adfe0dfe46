-- `bits::below` meets its contract: below the width it is a power less 1, and at 64 the largest number of 64 bits.
-- Assumes nothing.
use native.Mathlib.Omega.{arith}
use mathlib.Core.Path.{◌≡◌, ap}
use lib.Pow.{pow_pos}
use Rattle.bits.specs.Bit.{below}
use Rattle.bits.proofs.below.Goals as goal

pub overflow_sub-result : goal.overflow_sub-result
overflow_sub-result c = omega (arith, pow_pos c.args.n)

pub returns-else-n-lt64 : goal.returns-else-n-lt64
returns-else-n-lt64 c = let whole : 64 ≡ c.args.n = omega arith in ap below whole
