-- `checking::one_walk::terminal_symbol` meets its contract: a terminal that is there passes 13, and uses no slot; each test that fails is a fault.
-- Assumes nothing.
use Rattle.checking.proofs.OneWalkLaws.{terminal_fits, terminal_past, terminal_not, terminal_filled}
use Rattle.checking.proofs.one_walk.terminal_symbol.Goals.{then-x-symbols-via-then-x-symbols, then-x-symbols-via-else-x-symbols+then-nonterminal, then-x-symbols-via-else-x-symbols+else-nonterminal+then-not-unused_empty}
use Rattle.checking.proofs.one_walk.terminal_symbol.Goals as goal

pub returns-then-x-symbols : goal.returns-then-x-symbols
returns-then-x-symbols c =
    elim c.then-x-symbols.branch [
      | then-x-symbols-via-then-x-symbols w ↦ search terminal_past
      | then-x-symbols-via-else-x-symbols+then-nonterminal w ↦ search terminal_not
      | then-x-symbols-via-else-x-symbols+else-nonterminal+then-not-unused_empty w ↦ search terminal_filled
    ]

pub returns : goal.returns
returns c = search terminal_fits
