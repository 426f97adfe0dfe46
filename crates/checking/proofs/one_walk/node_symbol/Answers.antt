-- `checking::one_walk::node_symbol` meets its contract: the first word says whether the node applies a rule or is a terminal. Assumes nothing.
use Rattle.checking.proofs.OneWalkLaws.{at_terminal, terminal_reads}
use Rattle.checking.proofs.one_walk.node_symbol.Goals as goal

pub terminal_symbol-requires : goal.terminal_symbol-requires
terminal_symbol-requires c = search at_terminal

pub returns : goal.returns
returns c = terminal_reads _ _ _ _ _ _ c.known-r.ensures.value c.if-r-lt-TERMINAL_MARK.false c.terminal_symbol.ensures
