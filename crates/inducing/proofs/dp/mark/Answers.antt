-- One row gets one bit more.
use borrow.Author.Rules.{rules}
use Rattle.inducing.proofs.MarkLaws.{marked_row}
use Rattle.inducing.proofs.dp.mark.Goals as goal

pub returns : goal.returns
returns c = search (marked_row, rules)
