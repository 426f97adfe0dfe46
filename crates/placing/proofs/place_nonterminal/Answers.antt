-- A nonterminal gets its sets; the words of a terminal stay as they are.
use Rattle.placing.proofs.SetsLaws.{nonterminal_placed, over_terminal}
use Rattle.placing.proofs.place_nonterminal.Goals as goal

pub returns-then-nonterminal : goal.returns-then-nonterminal
returns-then-nonterminal c = search nonterminal_placed

pub returns : goal.returns
returns c = search over_terminal
