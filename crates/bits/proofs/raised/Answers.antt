-- `bits::raised` meets its contract: eight bits shifted up by at most 56 places lose nothing. Assumes nothing.
use Rattle.bits.specs.Bit.{raised}
use lib.Pow.{shl_exact}
use borrow.Author.Rules.{rules}
use Rattle.bits.proofs.raised.Goals as goal

pub returns : goal.returns
unfolding raised
returns c = shl_exact 8 c.args.n 64 (search rules) (search rules)
