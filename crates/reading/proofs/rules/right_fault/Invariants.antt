-- `reading::rules::right_fault` meets its contract: the invariant is that the symbols before position i passed. Assumes nothing.
use Rattle.reading.proofs.ChainLaws.{AtSymbol}
use Rattle.reading.proofs.rules.right_fault.Given as goal

abbrev pub invariant-loop-i : goal.invariant-loop-i
invariant-loop-i l = AtSymbol l.words l.p l.n l.i
