-- Operation 0 has a constant and no occurrence; every other operation has as many occurrences as argument words.
use Rattle.inducing.proofs.FunctionLaws.{no_arguments, some_arguments}
use Rattle.inducing.proofs.dp.argument_count.Goals as goal

pub returns-then-op-eq0-clause-value : goal.returns-then-op-eq0-clause-value
returns-then-op-eq0-clause-value c = search no_arguments

pub returns-clause-value : goal.returns-clause-value
returns-clause-value c = search some_arguments
