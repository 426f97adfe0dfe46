-- The invariant: the first r rules have DP, and each of them that is not stale is fresh. Each turn takes up one more.
use Prim.Native.Nat.{◌≤◌}
use Rattle.inducing.specs.Stale.{Stale}
use Rattle.inducing.proofs.ids.open_rules.Given as goal

abbrev pub invariant-loop-r : goal.invariant-loop-r
invariant-loop-r l = (l.r ≤ l.count) × Stale l.table.words.now l.initial.rows l.r l.stale l.rows l.ids
