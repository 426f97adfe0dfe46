-- The invariant: the members that lead on, and what members lead to, as far as they are no longer left.
use borrow.Author.Rules.{rules}
use Rattle.bits.proofs.WalkLaws.{all_left}
use Rattle.closing.proofs.InnerLaws.{seeing_start, seeing_turn, seeing_finish}
use Rattle.closing.proofs.inner.Goals as goal

pub loop-o-init : goal.loop-o-init
loop-o-init c = search (seeing_start, all_left)

pub loop-o-preserved : goal.loop-o-preserved
loop-o-preserved c = search (seeing_turn, rules, c.in-Some.ensures.steps)

pub returns : goal.returns
returns c = search (seeing_finish, c.in-None.ensures.steps)
