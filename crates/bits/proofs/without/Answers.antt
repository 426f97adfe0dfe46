-- `bits::without` meets its contract: and with all but i takes i out. Assumes nothing.
use Prim.Native.Nat.{ℕ, ◌-◌, ◌^◌}
use mathlib.Core.Path.{◌∙◌, ap}
use lib.Bits.{bit_and}
use lib.Pow.{pow-lt}
use Rattle.bits.proofs.SetLaws.{and_not, minus_single}
use Rattle.bits.proofs.without.Goals as goal

pub returns : goal.returns
returns c = ap (λ (x : ℕ). bit_and c.args.set (2 ^ 64 - 1 - x)) c.single.ensures
    ∙ and_not 64 c.args.set (2 ^ c.args.i) c.ranges.set.fits (pow-lt c.requires)
    ∙ minus_single c.args.i c.args.set
