-- `reading::read` meets its contract: an opening that is refused answers, and else the rules do. Assumes nothing.
use Rattle.reading.proofs.RuleLoop.{opening_answers, opened}
use Rattle.reading.proofs.read.Goals as goal

pub returns-in_err-opening_fault : goal.returns-in_err-opening_fault
returns-in_err-opening_fault c = search (opening_answers, c.in_err-opening_fault.was, c.from_residual.ensures.1)

pub read_rules-requires : goal.read_rules-requires
read_rules-requires c = search (opened, c.in_ok-opening_fault.was)
