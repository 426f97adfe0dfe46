-- The search goes through the rules and in each through its occurrences, and is left at the first that leads back to itself. So every rule
-- before it has no cycle, and no lower occurrence of its rule lies on one.
use Prim.Native.Nat.{◌≤◌}
use mathlib.Core.Path.{◌≡◌}
use Rattle.std.specs.Prelude.{None}
use Rattle.inducing.proofs.CycleLaws.{NoneBefore, RulesBefore}
use Rattle.inducing.proofs.find_cycle.Given as goal

abbrev pub invariant-loop-o : goal.invariant-loop-o
invariant-loop-o l = (l.o ≤ 64) × (l.found ≡ None) × NoneBefore l.rows l.r l.o

abbrev pub invariant-search : goal.invariant-search
invariant-search l = (l.r ≤ l.rules) × (l.found ≡ None) × RulesBefore l.rows l.r
