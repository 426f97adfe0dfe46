-- The invariant: the arcs at the first i positions are among those of their symbols and no others were put there; and who names a symbol
-- with a new arc is touched.
use borrow.Author.Rules.{rules}
use Rattle.inducing.proofs.GatheringLaws.{gathering_start, gathering_turn, gathering_finish}
use Rattle.inducing.proofs.SpreadLaws.{position_inside}
use Rattle.inducing.proofs.ids.gather.Goals as goal

pub loop-i-init : goal.loop-i-init
loop-i-init c = (search rules, search gathering_start)

pub gather_at-more-requires : goal.gather_at-more-requires
gather_at-more-requires c = search (position_inside, rules)

pub loop-i-preserved : goal.loop-i-preserved
loop-i-preserved c = (search rules, search gathering_turn)

pub returns : goal.returns
returns c = search gathering_finish
