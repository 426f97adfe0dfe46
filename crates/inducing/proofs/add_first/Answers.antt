-- The arcs of the functions are marked, and those of the symbols joined.
use Rattle.inducing.proofs.SpreadLaws.{opening_grown}
use Rattle.inducing.proofs.add_first.Goals as goal

pub returns : goal.returns
returns c = search opening_grown
