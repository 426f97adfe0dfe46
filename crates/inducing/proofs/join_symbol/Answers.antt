-- The symbol at the position is one of the table's, so it has arcs in the list.
use borrow.Author.Rules.{rules}
use Rattle.inducing.proofs.SpreadLaws.{position_small, symbol_small, spread_here}
use Rattle.inducing.proofs.join_symbol.Goals as goal

pub bounds-arcs-x : goal.bounds-arcs-x
bounds-arcs-x c = search symbol_small

pub join_at-requires : goal.join_at-requires
join_at-requires c = search (position_small, rules)

pub returns : goal.returns
returns c = search spread_here
