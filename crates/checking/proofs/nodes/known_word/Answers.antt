-- `checking::nodes::known_word` meets its contract: a word below 32,768 is a rule if there are so many, and one above it a terminal if the symbol that it
-- names is there and is none. Assumes nothing.
use Rattle.checking.proofs.NodeTestLaws.{known_rule, known_terminal, known_nothing}
use Rattle.checking.proofs.nodes.known_word.Goals as goal

pub returns-then-r-lt-TERMINAL_MARK : goal.returns-then-r-lt-TERMINAL_MARK
returns-then-r-lt-TERMINAL_MARK c = search known_rule

pub returns-then-x-symbols : goal.returns-then-x-symbols
returns-then-x-symbols c = search known_terminal

pub returns-else-x-symbols : goal.returns-else-x-symbols
returns-else-x-symbols c = search known_nothing
