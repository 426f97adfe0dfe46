-- The invariant: the arcs at the first i positions are among those of their symbols and no others were put there; and who names a symbol
-- with a new arc is touched.
use Prim.Native.Nat.{◌+◌, ◌≤◌}
use Rattle.inducing.specs.Stale.{Gathering}
use Rattle.inducing.proofs.ids.gather.Given as goal

abbrev pub invariant-loop-i : goal.invariant-loop-i
invariant-loop-i l = (l.i ≤ l.n + 1) × Gathering l.rule.words.now l.rule.at l.rows l.i l.naming l.initial.ids l.ids l.touched
