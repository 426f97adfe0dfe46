-- `remaining::visit` meets its contract: the visit is taken out, what it hands up no longer waits, and the next one wants its own. Assumes nothing.
use borrow.Author.Rules.{rules}
use Rattle.remaining.proofs.MaskLaws.{inherited_small, synthesized_small}
use Rattle.remaining.proofs.LeftLaws.{visit_answer}
use Rattle.remaining.proofs.State.visit.Goals as goal

pub raised-requires-2 : goal.raised-requires-2
raised-requires-2 c = (search synthesized_small, search rules)

pub raised-requires-3 : goal.raised-requires-3
raised-requires-3 c = (search inherited_small, search rules)

pub returns : goal.returns
returns c = search visit_answer
