-- `bits::with` meets its contract: or with the set of i alone puts i in. Assumes nothing.
use mathlib.Core.Path.{◌∙◌, ap}
use lib.Bits.{bit_or}
use Rattle.bits.proofs.SetLaws.{or_single}
use Rattle.bits.proofs.with.Goals as goal

pub returns : goal.returns
returns c = ap (bit_or c.args.set) c.single.ensures ∙ or_single c.args.i c.args.set
