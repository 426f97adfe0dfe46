-- `access::Rule::function_count` meets its contract: the count stands after the right side, whose length was read. Assumes nothing.
use Rattle.access.proofs.Laws.{count_at}
use Rattle.access.proofs.Rule.function_count.Goals as goal

pub returns-clause-value : goal.returns-clause-value
returns-clause-value c = search count_at
