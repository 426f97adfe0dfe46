-- `bits::has` meets its contract: the lowest digit of the set shifted down by i is bit i. Assumes nothing.
use Prim.Native.Nat.{ℕ, ◌/◌, ◌^◌}
use mathlib.Core.Path.{ap}
use lib.Bits.{and_mask}
use lib.Dec.{eqb}
use Rattle.bits.proofs.has.Goals as goal

pub returns : goal.returns
returns c = ap (λ (x : ℕ). eqb x 1) (and_mask (c.args.set / 2 ^ c.args.i) 1)
