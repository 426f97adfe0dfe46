-- `evaluating::of_two` meets its contract: an operation from 2 to 6 is handed its two arguments, and 0 for those that it does not have. Assumes nothing.
use native.Mathlib.Omega.{arith}
use Rattle.evaluating.proofs.PlaceLaws.{two_value}
use Rattle.evaluating.proofs.of_two.Goals as goal

pub argument_value-x-requires : goal.argument_value-x-requires
argument_value-x-requires c = c.requires.valued.one (omega arith)

pub argument_value-y-requires : goal.argument_value-y-requires
argument_value-y-requires c = c.requires.valued.two (omega arith)

pub returns : goal.returns
returns c = search (two_value, arith)
