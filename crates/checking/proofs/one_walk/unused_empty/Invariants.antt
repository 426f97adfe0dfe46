-- `checking::one_walk::unused_empty` meets its contract: the invariant SumTo says that the sum is zero exactly where each slot that was added is.
-- Assumes nothing.
use Prim.Native.Nat.{◌-◌}
use Rattle.checking.proofs.OneWalkLaws.{SumTo}
use Rattle.checking.proofs.one_walk.unused_empty.Given as goal

abbrev pub invariant-loop-i : goal.invariant-loop-i
invariant-loop-i l = SumTo l.t l.n l.used l.sum (l.i - 1)
