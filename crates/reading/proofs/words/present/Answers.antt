-- `reading::words::present` meets its contract: the one test of the definition decides. Assumes nothing.
use Rattle.grammar.specs.Reading.{present}
use borrow.Author.Rules.{rules}
use Rattle.reading.proofs.words.present.Goals as goal

pub returns : goal.returns
unfolding present
returns c = search rules
