-- The invariant: the members that lead on, and what members lead to, as far as they are no longer left.
use Rattle.closing.proofs.InnerLaws.{Seeing}
use Rattle.closing.proofs.inner.Given as goal

abbrev pub invariant-loop-o : goal.invariant-loop-o
invariant-loop-o l = Seeing l.rows l.among l.starts l.ends l.o-iterator.left
