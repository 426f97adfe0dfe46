-- A symbol of the table has at most eight attributes, and its eight set words are there.
use borrow.Author.Rules.{rules}
use Rattle.extending.proofs.DescentLaws.{few_attributes, order_here}
use Rattle.extending.proofs.order_of.Goals as goal

pub descents-requires : goal.descents-requires
descents-requires c = search (few_attributes, rules)

pub returns : goal.returns
returns c = search order_here
