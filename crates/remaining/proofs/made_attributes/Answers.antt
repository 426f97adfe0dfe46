-- `remaining::made_attributes` meets its contract: a nonterminal has all its attributes, a terminal none. Assumes nothing.
use Rattle.remaining.proofs.BlockSetLaws.{made_yes, made_no}
use Rattle.remaining.proofs.made_attributes.Goals as goal

pub returns-then-nonterminal : goal.returns-then-nonterminal
returns-then-nonterminal c = search made_yes

pub returns : goal.returns
returns c = search made_no
