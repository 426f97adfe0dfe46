-- `remaining::made_occurrences` meets its contract. After i turns the set holds the occurrences of nonterminals at the positions below i.
-- Assumes nothing.
use Prim.Native.Nat.{◌-◌}
use Rattle.remaining.proofs.BlockSetLaws.{Making}
use Rattle.remaining.proofs.made_occurrences.Given as goal

abbrev pub invariant-loop-i : goal.invariant-loop-i
invariant-loop-i l = Making l.rule.words.now l.rule.at l.i-end l.made l.i

abbrev pub decreases-loop-i : goal.decreases-loop-i
decreases-loop-i l = l.i-end - l.i
