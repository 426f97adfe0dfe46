-- The set without the rule, and then with what it touched, is what the contract names.
use Rattle.inducing.proofs.StaleLaws.{still_stale}
use Rattle.inducing.proofs.ids.still_stale.Goals as goal

pub returns : goal.returns
returns c = search still_stale
