-- The invariant: the attributes that are no longer left have the number, and the other words are as they were.
use borrow.Author.Rules.{rules}
use Rattle.bits.proofs.WalkLaws.{all_left}
use Rattle.placing.proofs.TakenLaws.{numbering_place, numbering_start, numbering_turn, numbering_finish}
use Rattle.placing.proofs.number_set.Goals as goal

pub loop-a-init : goal.loop-a-init
loop-a-init c = search (numbering_start, all_left)

pub bounds-sets-at : goal.bounds-sets-at
bounds-sets-at c = search (numbering_place, rules, c.in-Some.ensures.steps)

pub loop-a-preserved : goal.loop-a-preserved
loop-a-preserved c = search (numbering_turn, c.in-Some.ensures.steps)

pub returns : goal.returns
returns c = search (numbering_finish, c.in-None.ensures.steps)
