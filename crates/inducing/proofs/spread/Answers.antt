-- The arcs lie between occurrences, and where none of them starts paths meet as they did: so it is enough to close over their starts.
use Rattle.inducing.proofs.GrownLaws.{grown_starts, grown_closes}
use Rattle.inducing.proofs.SpreadLaws.{spread_inside, joined_meeting}
use Rattle.inducing.proofs.spread.Goals as goal

pub close-requires-clause-meeting : goal.close-requires-clause-meeting
close-requires-clause-meeting c = search (joined_meeting, spread_inside)

pub close-requires-clause-starts : goal.close-requires-clause-starts
close-requires-clause-starts c = search (grown_starts, spread_inside)

pub returns : goal.returns
returns c = search (grown_closes, spread_inside)
