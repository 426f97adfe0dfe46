-- Either every arc stands there already, and nothing changes; or some are new, and they are put in.
use borrow.Author.Rules.{rules}
use Rattle.inducing.proofs.GatheringLaws.{added_none, added_new}
use Rattle.inducing.proofs.ids.add_arcs.Goals as goal

pub returns-then-new-eq0 : goal.returns-then-new-eq0
returns-then-new-eq0 c = search added_none

pub returns : goal.returns
returns c = search (added_new, rules)
