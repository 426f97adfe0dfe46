-- The invariant: of the candidates that are no longer left, those that stay are taken.
use Rattle.placing.proofs.TakenLaws.{Taking}
use Rattle.placing.proofs.taken_from.Given as goal

abbrev pub invariant-loop-a : goal.invariant-loop-a
invariant-loop-a l = Taking l.arcs l.unplaced l.class l.a-iterator.left l.taken
