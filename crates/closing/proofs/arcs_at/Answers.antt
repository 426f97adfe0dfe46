-- The invariant: the arcs from the first a attributes are in the set, each at its own eight places.
use borrow.Author.Rules.{rules}
use Rattle.closing.proofs.GatherLaws.{gather_none, gather_turn, gather_end}
use Rattle.closing.proofs.arcs_at.Goals as goal

pub loop-a-init : goal.loop-a-init
loop-a-init c = (search rules, search gather_none)

pub loop-a-preserved : goal.loop-a-preserved
loop-a-preserved c = (search rules, search gather_turn)

pub returns : goal.returns
returns c = search gather_end
