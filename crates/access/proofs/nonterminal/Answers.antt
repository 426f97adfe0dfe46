-- `access::nonterminal` meets its contract: it tests the kind that was read. Assumes nothing.
use Prim.Native.Nat.{ℕ}
use mathlib.Core.Path.{ap}
use lib.Dec.{eqb}
use Rattle.access.proofs.nonterminal.Goals as goal

pub returns : goal.returns
returns c = ap (λ (k : ℕ). eqb k 0) c.kind.ensures.value
