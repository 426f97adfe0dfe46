-- `bits::union` meets its contract, which names the machine's or. Assumes nothing.
use mathlib.Core.Path.{refl}
use Rattle.bits.specs.Bit.{union}
use Rattle.bits.proofs.union.Goals as goal

pub returns : goal.returns
unfolding union
returns c = refl
