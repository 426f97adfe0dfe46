-- `bits::first` meets its contract: the lowest place of a set that is not empty is below 64 and its digit is 1. Assumes nothing.
use native.Mathlib.Omega.{arith}
use Rattle.bits.proofs.LowestLaws.{first_of}
use Rattle.bits.proofs.first.Goals as goal

pub returns : goal.returns
returns c = first_of c.args.set c.lowest.result c.lowest.ensures (omega arith) (omega arith)
