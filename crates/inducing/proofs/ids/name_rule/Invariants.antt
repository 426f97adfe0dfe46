-- The invariant: the rule is in the sets of the symbols at its first i positions, and nothing else was put in.
use Prim.Native.Nat.{◌+◌, ◌≤◌}
use Rattle.inducing.specs.Stale.{NamedAt}
use Rattle.inducing.proofs.ids.name_rule.Given as goal

abbrev pub invariant-loop-i : goal.invariant-loop-i
invariant-loop-i l = (l.i ≤ l.n + 1) × NamedAt l.table.words.now l.r l.i l.initial.naming l.naming
