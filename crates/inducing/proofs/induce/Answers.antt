-- The rows are cleared, and gone through until no rule is stale. Then nothing is missing, and every path is one of IDP and every arc one of IDS: so the state is IDS, and the rows hold the paths of IDP and no others.
use Rattle.inducing.proofs.ClearLaws.{rules_filled, filled_room, filled_zero}
use Rattle.inducing.proofs.ExactLaws.{induced_state, induced_rows}
use Rattle.inducing.proofs.induce.Goals as goal

pub induced-requires-clause-room : goal.induced-requires-clause-room
induced-requires-clause-room c = search (filled_room, c.fill.ensures.after)

pub induced-requires-clause-empty : goal.induced-requires-clause-empty
induced-requires-clause-empty c = search (filled_zero, c.fill.ensures.after)

pub returns : goal.returns
returns c = search (induced_state, induced_rows, rules_filled, c.fill.ensures.after)
