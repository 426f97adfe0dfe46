-- `reading::symbols::symbol_class` meets its contract: a nonterminal passes, and else the mask decides. Assumes nothing.
use Rattle.access.proofs.Laws.{or_first, or_second, zero_of}
use Rattle.reading.proofs.symbols.symbol_class.Goals as goal

pub returns-then-nonterminal : goal.returns-then-nonterminal
returns-then-nonterminal c = search or_first

pub returns-else-nonterminal : goal.returns-else-nonterminal
returns-else-nonterminal c = search (or_second, zero_of)
