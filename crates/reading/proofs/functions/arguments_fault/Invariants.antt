-- `reading::functions::arguments_fault` meets its contract: the invariant is that the argument words before j passed. Assumes nothing.
use Prim.Native.Nat.{◌+◌, ◌≤◌}
use mathlib.Core.Path.{◌≡◌}
use lib.Dec.{eqb}
use Rattle.grammar.specs.Verdicts.{Good, each}
use Rattle.access.specs.ByPlace.{argument_from}
use Rattle.reading.proofs.functions.arguments_fault.Given as goal

abbrev pub invariant-loop-j : goal.invariant-loop-j
invariant-loop-j l = (l.j ≤ l.n) × (each l.j (λ i. argument_from l.words (l.f + 2 + i) (eqb l.op 0) l.occurrences) ≡ Good)
