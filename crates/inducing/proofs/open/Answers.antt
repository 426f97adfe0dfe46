-- The arcs of the functions and of the symbols lie between occurrences, and so do all paths over them.
use Rattle.closing.proofs.InnerLaws.{inner_meeting}
use Rattle.inducing.proofs.GrownLaws.{grown_starts, grown_closes}
use Rattle.inducing.proofs.FunctionLaws.{functions_small}
use Rattle.inducing.proofs.SpreadLaws.{opening_inside}
use Rattle.inducing.proofs.open.Goals as goal

pub add_first-requires-clause-functions_small : goal.add_first-requires-clause-functions_small
add_first-requires-clause-functions_small c = search functions_small

pub close-requires-clause-meeting : goal.close-requires-clause-meeting
close-requires-clause-meeting c = search inner_meeting

pub close-requires-clause-starts : goal.close-requires-clause-starts
close-requires-clause-starts c = search (grown_starts, opening_inside)

pub returns : goal.returns
returns c = search (grown_closes, opening_inside)
