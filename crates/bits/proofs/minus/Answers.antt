-- `bits::minus` meets its contract: and with all but b takes the members of b out. Assumes nothing.
use Rattle.bits.proofs.SetLaws.{and_not}
use Rattle.bits.proofs.minus.Goals as goal

pub returns : goal.returns
returns c = and_not 64 c.args.a c.args.b c.ranges.a.fits c.ranges.b.fits
