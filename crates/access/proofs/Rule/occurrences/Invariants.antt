-- `access::Rule::occurrences` meets its contract. After i turns the set holds the occurrences of the positions up to i, each a block of eight bits;
-- a well-formed symbol fills no more than its block, and past the last position nothing stands. Assumes nothing.
use Rattle.access.specs.ByPlace.{occurrence_from}
use Rattle.access.proofs.Blocks.{Filled}
use Rattle.access.proofs.Rule.occurrences.Given as goal

abbrev pub invariant-loop-i : goal.invariant-loop-i
invariant-loop-i l = Filled (occurrence_from l.self.words.now l.self.at) l.n l.i l.set
