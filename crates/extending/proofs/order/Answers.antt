-- The invariant: the first x symbols have their arcs, and the other words are 0.
use borrow.Author.Rules.{rules}
use Rattle.extending.proofs.DescentLaws.{symbol_small, symbol_inside, order_start, order_turn, order_end}
use Rattle.extending.proofs.order.Goals as goal

pub loop-x-init : goal.loop-x-init
loop-x-init c = (search rules, search order_start)

pub order_of-requires : goal.order_of-requires
order_of-requires c = search (symbol_small, symbol_inside, rules)

pub bounds-arcs-x : goal.bounds-arcs-x
bounds-arcs-x c = search symbol_small

pub loop-x-preserved : goal.loop-x-preserved
loop-x-preserved c = (search rules, search (order_turn, symbol_small))

pub returns : goal.returns
returns c = search order_end
