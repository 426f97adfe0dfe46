-- `reading::symbols::starts` meets its contract: a terminal fails, and else the mask decides. Assumes nothing.
use Rattle.access.proofs.Laws.{and_first, and_second, zero_of}
use Rattle.reading.proofs.symbols.starts.Goals as goal

pub returns-then-nonterminal : goal.returns-then-nonterminal
returns-then-nonterminal c = search (and_second, zero_of)

pub returns-else-nonterminal : goal.returns-else-nonterminal
returns-else-nonterminal c = search and_first
