-- The invariant: the arcs of the symbols at the first i positions are there.
use Prim.Native.Nat.{◌+◌, ◌≤◌}
use Rattle.inducing.specs.Closes.{Joined}
use Rattle.inducing.specs.Arcs.{SpreadArc}
use Rattle.inducing.proofs.join_symbols.Given as goal

abbrev pub invariant-loop-i : goal.invariant-loop-i
invariant-loop-i l = (l.i ≤ l.n + 1) × Joined l.initial.rows 0 (SpreadArc l.rule.words.now l.rule.at l.arcs l.i) l.rows l.starts
