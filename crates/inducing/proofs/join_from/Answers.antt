-- Either every arc from the attribute is there, or the missing ones are added and the row is one at which paths may not meet.
use Rattle.inducing.proofs.JoinLaws.{none_missing, some_missing}
use Rattle.inducing.proofs.join_from.Goals as goal

pub returns-then-to-eq0 : goal.returns-then-to-eq0
returns-then-to-eq0 c = search none_missing

pub returns : goal.returns
returns c = search some_missing
