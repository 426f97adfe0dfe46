-- `values::result` meets its contract: each arm answers what the table of operations has at its number; operations 0 and 1 hand on their argument, and
-- past the last number there is 0. What an operation answers lies between the ends, so holding changes it nowhere but in sums and differences. Assumes nothing.
use native.Mathlib.Omega.{arith}
use Rattle.values.proofs.ValueLaws.{larger_is, smaller_is, less_is}
use Rattle.values.proofs.LocalLaws.{answered, whole, handed_on, chosen_z, chosen_y, past, no_operation}
use Rattle.values.proofs.result.Goals as goal

pub returns-in-4 : goal.returns-in-4
returns-in-4 c = search (answered 4, whole, larger_is)

pub returns-in-5 : goal.returns-in-5
returns-in-5 c = search (answered 5, whole, smaller_is)

pub returns-in-6 : goal.returns-in-6
returns-in-6 c = search (answered 6, whole, less_is)

pub returns-then-x-eq0 : goal.returns-then-x-eq0
returns-then-x-eq0 c = search chosen_z

pub returns-else-x-eq0 : goal.returns-else-x-eq0
returns-else-x-eq0 c = search chosen_y

pub returns-in-8 : goal.returns-in-8
returns-in-8 c = search (answered 8, whole)

pub returns-in-0 : goal.returns-in-0
returns-in-0 c = handed_on c.args.op _ _ _ c.ranges.x (omega arith)

pub returns-in_default : goal.returns-in_default
returns-in_default c = no_operation c.args.op _ _ _ _ (search (past 2, past 3, past 4, past 5, past 6, past 7, past 8) depth 8)
