-- `lister::little_endian` meets its contract: the invariant is that the words of the pairs so far are written. Assumes nothing.
use Rattle.lister.proofs.TableLaws.{Pairs}
use Rattle.lister.proofs.little_endian.Given as goal

abbrev pub invariant-loop-i : goal.invariant-loop-i
invariant-loop-i l = Pairs l.bytes l.initial.words l.words l.i-iterator.iter.size l.i-iterator.iter.rest.now l.i-iterator.count
