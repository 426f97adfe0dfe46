-- `reading::read_rules` meets its contract. The invariant AtRule: the rules before r passed, rule r starts at p, the set says whether rule r - 1 is
-- complete, and the offsets of the rules before r stand. Counts that passed keep p below 99 + 394 r, so an offset fits 16 bits. Assumes nothing.
use Rattle.grammar.specs.Table.{rules}
use Rattle.reading.proofs.RuleLoop.{AtRule}
use Rattle.reading.proofs.read_rules.Given as goal

abbrev pub invariant-loop-r : goal.invariant-loop-r
invariant-loop-r l = AtRule l.words l.offsets l.r-end l.p l.undefined l.r
