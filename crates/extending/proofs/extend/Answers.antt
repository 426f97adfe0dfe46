-- The invariant: the rows have the paths of IDP, those of the first r rules have the arcs that lead down too, and all stay within the paths
-- of EDP. In the end they have every arc of EDP, and are closed.
use borrow.Author.Rules.{rules}
use Rattle.extending.proofs.ExtendLaws.{arcs_are, extending_start, extending_kept, extending_turn, extending_finish}
use Rattle.extending.proofs.extend.Goals as goal

pub loop-r-init : goal.loop-r-init
loop-r-init c = (search rules, search extending_start)

pub extend_rule-requires : goal.extend_rule-requires
extend_rule-requires c = search (arcs_are, extending_kept, rules)

pub loop-r-preserved : goal.loop-r-preserved
loop-r-preserved c = (search rules, search extending_turn)

pub returns : goal.returns
returns c = search extending_finish
