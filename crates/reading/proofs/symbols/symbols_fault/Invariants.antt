-- `reading::symbols::symbols_fault` meets its contract: the invariant is that the symbols before x passed. Assumes nothing.
use Prim.Native.Nat.{◌≤◌}
use mathlib.Core.Path.{◌≡◌}
use Rattle.grammar.specs.Reading.{symbol_fault}
use Rattle.grammar.specs.Verdicts.{Good, each}
use Rattle.reading.proofs.symbols.symbols_fault.Given as goal

abbrev pub invariant-loop-x : goal.invariant-loop-x
invariant-loop-x l = (l.x ≤ l.n) × (each l.x (λ y. symbol_fault l.words y) ≡ Good)
