-- A symbol has at most eight attributes, so they are a small set, and its eight words are there.
use borrow.Author.Rules.{rules}
use Rattle.placing.proofs.SetsLaws.{attributes_small, attributes_placed}
use Rattle.placing.proofs.place_attributes.Goals as goal

pub place_symbol-requires : goal.place_symbol-requires
place_symbol-requires c = search (attributes_small, rules)

pub returns : goal.returns
returns c = search attributes_placed
