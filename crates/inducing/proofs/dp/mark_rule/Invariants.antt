-- The invariant: f is the word at which function k starts, and the arcs of the functions before it are marked.
use Prim.Native.Nat.{◌≤◌}
use Rattle.inducing.proofs.FunctionLaws.{MarkingRule}
use Rattle.inducing.proofs.dp.mark_rule.Given as goal

abbrev pub invariant-loop-k : goal.invariant-loop-k
invariant-loop-k l = (l.k ≤ l.count) × MarkingRule l.rule.words.now l.rule.at l.initial.rows l.k l.f l.rows
