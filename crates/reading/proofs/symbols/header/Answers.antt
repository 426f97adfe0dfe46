-- `reading::symbols::header` meets its contract: its three range tests stand in the definition's order, each on the word that was read. Assumes nothing.
use Rattle.grammar.specs.Reading.{header}
use Rattle.grammar.proofs.VerdictLaws.{handed}
use Rattle.access.proofs.Laws.{stops, passes, ranged_of, between_of, ltb_of}
use Rattle.reading.proofs.symbols.header.Goals as goal

pub returns-in_err-ranged : goal.returns-in_err-ranged
unfolding header
returns-in_err-ranged c = search (handed, stops, ranged_of, between_of, c.in_err-ranged.was, c.from_residual.ensures.1) depth 8

pub returns-in_err-ranged-2 : goal.returns-in_err-ranged-2
unfolding header
returns-in_err-ranged-2 c =
    search (handed, stops, passes, ranged_of, between_of, c.in_ok-ranged.was, c.in_err-ranged-2.was, c.from_residual-in_err-ranged-2.ensures.1) depth 9

pub returns : goal.returns
unfolding header
returns c = search (passes, ranged_of, between_of, ltb_of, c.in_ok-ranged.was, c.in_ok-ranged-2.was) depth 8
