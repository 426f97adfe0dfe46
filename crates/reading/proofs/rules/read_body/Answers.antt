-- `reading::rules::read_body` meets its contract: the sets are made once the shape passed, and the functions answer for the rest. Assumes nothing.
use Rattle.reading.proofs.RuleLaws.{shape_stops, shaped, few_functions, functions_answer}
use Rattle.reading.proofs.rules.read_body.Goals as goal

pub returns-in_err-shape_fault : goal.returns-in_err-shape_fault
returns-in_err-shape_fault c = search (shape_stops, c.in_err-shape_fault.was, c.from_residual.ensures.1)

pub occurrences-requires : goal.occurrences-requires
occurrences-requires c = search (shaped, c.in_ok-shape_fault.was)

pub definings-requires : goal.definings-requires
definings-requires c = search (shaped, c.in_ok-shape_fault.was)

pub read_functions-requires : goal.read_functions-requires
read_functions-requires c = search (few_functions, c.in_ok-shape_fault.was)

pub returns : goal.returns
returns c = search (functions_answer, c.in_ok-shape_fault.was)
