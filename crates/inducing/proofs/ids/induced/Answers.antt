-- Every rule is taken up once, and then as long as one is stale.
use Rattle.inducing.proofs.StaleLaws.{standing_start, stale_here, stale_then}
use Rattle.inducing.proofs.ids.induced.Goals as goal

pub open_rules-stale-requires-clause-standing : goal.open_rules-stale-requires-clause-standing
open_rules-stale-requires-clause-standing c = search standing_start

pub settle-requires-clause-stale : goal.settle-requires-clause-stale
settle-requires-clause-stale c = search stale_here

pub returns : goal.returns
returns c = search stale_then
