-- The invariant: the attributes that are no longer left have the number, and the other words are as they were.
use Rattle.placing.proofs.TakenLaws.{Numbering}
use Rattle.placing.proofs.number_set.Given as goal

abbrev pub invariant-loop-a : goal.invariant-loop-a
invariant-loop-a l = Numbering l.initial.sets l.at l.taken l.k l.sets l.a-iterator.left
