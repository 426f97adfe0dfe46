-- `evaluating::function_value` meets its contract, by the number of the operation: operation 0 hands on its constant and 1 its argument; each other
-- arm answers what its own number gives, and what no arm names is 8 or more. Assumes nothing.
use mathlib.Core.Path.{refl}
use native.Mathlib.Omega.{arith}
use Rattle.evaluating.proofs.PlaceLaws.{from_eight, constant_value, one_value}
use Rattle.evaluating.proofs.function_value.Goals as goal

pub argument_value-requires : goal.argument_value-requires
argument_value-requires c = c.requires.one (omega arith)

pub of_four-requires-clause-op_value : goal.of_four-requires-clause-op_value
of_four-requires-clause-op_value c = (refl, search from_eight)

pub returns-in-0 : goal.returns-in-0
returns-in-0 c = constant_value _ _ _ _ _ refl (omega arith) c.constant_value.ensures c.constant_value.type_inv

pub returns-in-1 : goal.returns-in-1
returns-in-1 c = one_value _ _ _ _ _ refl (omega arith) c.argument_value.ensures c.argument_value.type_inv
