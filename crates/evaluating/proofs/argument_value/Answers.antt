-- `evaluating::argument_value` meets its contract: the word names an occurrence, the occurrence its cell, and the cell its value, which is read back whole.
-- Assumes nothing.
use native.Mathlib.Omega.{arith}
use Rattle.evaluating.proofs.PlaceLaws.{named_cell, named_value}
use Rattle.evaluating.proofs.argument_value.Goals as goal

pub offset_bounds-values-c : goal.offset_bounds-values-c
offset_bounds-values-c c = omega (arith, named_cell c.requires c.known.ensures.value c.cell-c.ensures)

pub bounds-values-c : goal.bounds-values-c
bounds-values-c c = search named_cell

pub returns : goal.returns
returns c = named_value _ c.args.values.now _ _ c.known.ensures.value c.cell-c.ensures c.result-1.given
