-- `bits::lowest` meets its contract: the zeros below the lowest digit that is set are as many as its place. Assumes nothing.
use Rattle.bits.proofs.LowestLaws.{trailing_lowest}
use Rattle.bits.proofs.lowest.Goals as goal

pub returns : goal.returns
returns c = trailing_lowest 64 c.args.set
