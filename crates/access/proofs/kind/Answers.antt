-- `access::kind` meets its contract: the view names the very word that is read. Assumes nothing.
use Rattle.grammar.specs.Table.{kind}
use Rattle.access.proofs.kind.Goals as goal

pub returns : goal.returns
unfolding kind
returns c = c.word.ensures
