-- Four bits shifted up by at most 60 places lose nothing.
use borrow.Author.Rules.{rules}
use lib.Pow.{shl_exact}
use Rattle.bits.specs.Bit.{raised}
use Rattle.closing.proofs.fours.four_from.Goals as goal

pub returns : goal.returns
unfolding raised
returns c = shl_exact 4 c.args.k 64 (search rules) (search rules)
