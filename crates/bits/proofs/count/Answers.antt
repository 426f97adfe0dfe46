-- `bits::count` meets its contract: the digits that are set are the members. Assumes nothing.
use Rattle.bits.proofs.CountLaws.{ones_count}
use Rattle.bits.proofs.count.Goals as goal

pub returns : goal.returns
returns c = ones_count 64 c.args.set c.ranges.set.fits
