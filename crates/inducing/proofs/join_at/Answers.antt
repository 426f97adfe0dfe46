-- The invariant: the arcs from the first a attributes are there. Where no attribute from a on has arcs, all are there.
use borrow.Author.Rules.{rules}
use Rattle.inducing.proofs.JoinLaws.{attributes_start, attributes_turn, attributes_early, attributes_finish}
use Rattle.inducing.proofs.join_at.Goals as goal

pub loop-a-init : goal.loop-a-init
loop-a-init c = (search rules, search attributes_start)

pub returns-then-arcs-single : goal.returns-then-arcs-single
returns-then-arcs-single c = search attributes_early

pub loop-a-preserved : goal.loop-a-preserved
loop-a-preserved c = (search rules, search attributes_turn)

pub returns : goal.returns
returns c = search (attributes_finish, rules)
