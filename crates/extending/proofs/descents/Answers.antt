-- The invariant: of the arcs below k, those that lead down are in the set.
use borrow.Author.Rules.{rules}
use Rattle.extending.proofs.DescentLaws.{collect_none, collect_put, collect_end}
use Rattle.extending.proofs.descents.Goals as goal

pub loop-k-init : goal.loop-k-init
loop-k-init c = (search rules, search collect_none)

pub loop-k-preserved : goal.loop-k-preserved
loop-k-preserved c = (search rules, search collect_put)

pub returns : goal.returns
returns c = search collect_end
