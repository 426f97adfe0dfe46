-- `access::Rule::first_function` meets its contract: the first function stands after the count. Assumes nothing.
use native.Mathlib.Omega.{arith}
use Rattle.grammar.specs.Table.{function_at}
use Rattle.access.proofs.Rule.first_function.Goals as goal

pub returns : goal.returns
unfolding function_at
returns c = omega arith
