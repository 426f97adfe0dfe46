-- `executing::compute` meets its contract: one cell is written, with the value of the function. Assumes nothing.
use Rattle.executing.proofs.StateLaws.{compute_writes}
use Rattle.executing.proofs.compute.Goals as goal

pub returns : goal.returns
returns c = compute_writes _ _ c.args.values.now _ _ _ _ _ c.function_value-value.ensures c.function_value-value.type_inv c.cell-c.ensures
