-- `remaining::symbol_visits` meets its contract: a nonterminal has the visits below v, which is at most 5, and a terminal none.
-- Assumes nothing.
use Rattle.remaining.proofs.BlockSetLaws.{visits_yes, visits_no}
use Rattle.remaining.proofs.symbol_visits.Goals as goal

pub returns-then-nonterminal : goal.returns-then-nonterminal
returns-then-nonterminal c = search visits_yes

pub returns : goal.returns
returns c = search visits_no
