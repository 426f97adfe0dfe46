-- `evaluating::of_four` meets its contract: an operation from 8 on is handed its four arguments. Assumes nothing.
use native.Mathlib.Omega.{arith}
use Rattle.evaluating.proofs.PlaceLaws.{four_value}
use Rattle.evaluating.proofs.of_four.Goals as goal

pub argument_value-x-requires : goal.argument_value-x-requires
argument_value-x-requires c = c.requires.valued.one (omega arith)

pub argument_value-y-requires : goal.argument_value-y-requires
argument_value-y-requires c = c.requires.valued.two (omega arith)

pub argument_value-z-requires : goal.argument_value-z-requires
argument_value-z-requires c = c.requires.valued.three (omega arith)

pub argument_value-t-requires : goal.argument_value-t-requires
argument_value-t-requires c = c.requires.valued.four (omega arith)

pub returns : goal.returns
returns c = four_value _ _ _ _ _ c.requires.op_value.0 (omega arith) c.argument_value-x.ensures c.argument_value-x.type_inv c.argument_value-y.ensures
    c.argument_value-y.type_inv c.argument_value-z.ensures c.argument_value-z.type_inv c.argument_value-t.ensures
    c.argument_value-t.type_inv c.requires.op_value.1 c.result.ensures c.result.type_inv
