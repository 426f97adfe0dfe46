-- `access::mask` meets its contract: the view names the very word that is read. Assumes nothing.
use Rattle.grammar.specs.Table.{mask}
use Rattle.access.proofs.mask.Goals as goal

pub returns : goal.returns
unfolding mask
returns c = c.word.ensures
