-- Eight places are a set of numbers below 8, which has room from number 56 on as well.
use borrow.Author.Rules.{rules}
use Rattle.closing.proofs.GatherLaws.{field_fits, moved_is}
use Rattle.closing.proofs.moved.Goals as goal

pub raised-requires : goal.raised-requires
raised-requires c = (search field_fits, search rules)

pub returns : goal.returns
returns c = search moved_is
