-- `evaluating::of_three` meets its contract: operation 7 is handed its three arguments, and 0 for the fourth. Assumes nothing.
use native.Mathlib.Omega.{arith}
use Rattle.evaluating.proofs.PlaceLaws.{three_value}
use borrow.Author.Rules.{rules}
use Rattle.evaluating.proofs.of_three.Goals as goal

pub argument_value-x-requires : goal.argument_value-x-requires
argument_value-x-requires c = c.requires.valued.one (omega arith)

pub argument_value-y-requires : goal.argument_value-y-requires
argument_value-y-requires c = c.requires.valued.two (omega arith)

pub argument_value-z-requires : goal.argument_value-z-requires
argument_value-z-requires c = c.requires.valued.three (omega arith)

pub returns : goal.returns
returns c = search (three_value, rules)
