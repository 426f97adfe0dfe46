-- `access::Rule::symbol` meets its contract: position 0 is the rule's first word, and position i above it the word at p + 1 + i. Assumes nothing.
use Rattle.access.proofs.Laws.{symbol_left, symbol_right}
use Rattle.access.proofs.Rule.symbol.Goals as goal

pub returns-then-i-eq0-clause-value : goal.returns-then-i-eq0-clause-value
returns-then-i-eq0-clause-value c = symbol_left _ _ _ _ c.if-i-eq0.true c.word.ensures.value

pub returns-then-i-eq0-clause-upper_bound : goal.returns-then-i-eq0-clause-upper_bound
returns-then-i-eq0-clause-upper_bound c = c.word.ensures.upper_bound

pub returns-clause-value : goal.returns-clause-value
returns-clause-value c = symbol_right _ _ _ _ c.if-i-eq0.false c.word-2.ensures.value

pub returns-clause-upper_bound : goal.returns-clause-upper_bound
returns-clause-upper_bound c = c.word-2.ensures.upper_bound
