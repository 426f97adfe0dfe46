-- `bits::field` meets its contract: it is the definition, word for word. Assumes nothing.
use Rattle.bits.specs.Bit.{field}
use mathlib.Core.Path.{refl}
use Rattle.bits.proofs.field.Goals as goal

pub returns : goal.returns
unfolding field
returns c = refl
