-- `access::attributes` meets its contract: the view names the very word that is read. Assumes nothing.
use Rattle.grammar.specs.Table.{attributes}
use Rattle.access.proofs.attributes.Goals as goal

pub returns : goal.returns
unfolding attributes
returns c = c.word.ensures
