-- The symbol at the position is one of the table's, so its arcs have a word; and the arcs there are those between its attributes.
use borrow.Author.Rules.{rules}
use Rattle.inducing.proofs.GatheringLaws.{added_here}
use Rattle.inducing.proofs.SpreadLaws.{position_small, symbol_small, count_small}
use Rattle.inducing.proofs.ids.gather_at.Goals as goal

pub arcs_at-arcs-requires : goal.arcs_at-arcs-requires
arcs_at-arcs-requires c = search (position_small, count_small, rules)

pub bounds-naming-x : goal.bounds-naming-x
bounds-naming-x c = search symbol_small

pub add_arcs-requires : goal.add_arcs-requires
add_arcs-requires c = search (symbol_small, rules)

pub returns : goal.returns
returns c = search added_here
