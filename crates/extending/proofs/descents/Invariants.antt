-- The invariant: of the arcs below k, those that lead down are in the set.
use Prim.Native.Nat.{◌≤◌, ◌*◌}
use mathlib.Core.Path.{◌≡◌}
use Rattle.bits.specs.Bit.{collect}
use Rattle.extending.specs.Descents.{descends}
use Rattle.extending.proofs.descents.Given as goal

abbrev pub invariant-loop-k : goal.invariant-loop-k
invariant-loop-k l = (l.k ≤ 8 * l.count) × (l.arcs ≡ collect l.k (λ k. descends l.sets l.p l.count k))
