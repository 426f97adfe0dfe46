-- `access::Rule::definings` meets its contract. After i turns the set holds the defining occurrences of the positions up to i: on the left what is not
-- inherited, on the right the masks, which fit their blocks. Assumes nothing.
use Rattle.access.specs.ByPlace.{defining_from}
use Rattle.access.proofs.Blocks.{Filled}
use Rattle.access.proofs.Rule.definings.Given as goal

abbrev pub invariant-loop-i : goal.invariant-loop-i
invariant-loop-i l = Filled (defining_from l.self.words.now l.self.at) l.n l.i l.set
