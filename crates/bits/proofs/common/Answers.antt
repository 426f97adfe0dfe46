-- `bits::common` meets its contract, which names the machine's and. Assumes nothing.
use mathlib.Core.Path.{refl}
use Rattle.bits.specs.Bit.{common}
use Rattle.bits.proofs.common.Goals as goal

pub returns : goal.returns
unfolding common
returns c = refl
