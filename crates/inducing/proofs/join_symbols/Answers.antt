-- The invariant: the arcs of the symbols at the first i positions are there.
use borrow.Author.Rules.{rules}
use Rattle.inducing.proofs.SpreadLaws.{position_inside, spread_start, spread_turn, spread_finish}
use Rattle.inducing.proofs.join_symbols.Goals as goal

pub loop-i-init : goal.loop-i-init
loop-i-init c = (search rules, search spread_start)

pub join_symbol-starts-requires : goal.join_symbol-starts-requires
join_symbol-starts-requires c = search (position_inside, rules)

pub loop-i-preserved : goal.loop-i-preserved
loop-i-preserved c = (search rules, search spread_turn)

pub returns : goal.returns
returns c = search spread_finish
