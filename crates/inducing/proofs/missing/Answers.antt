-- The targets are the eight places of the attribute put to those of the position; what the row has of them is taken away.
use Rattle.inducing.proofs.JoinLaws.{missing_set}
use Rattle.inducing.proofs.missing.Goals as goal

pub returns : goal.returns
returns c = search missing_set
