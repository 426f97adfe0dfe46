-- The invariant: for each symbol the set has those of the first r rules that name it, and no rule from r on.
use Prim.Native.Nat.{◌≤◌}
use Rattle.inducing.specs.Stale.{Naming}
use Rattle.inducing.proofs.ids.name_rules.Given as goal

abbrev pub invariant-loop-r : goal.invariant-loop-r
invariant-loop-r l = (l.r ≤ l.count) × Naming l.table.words.now l.r l.naming
