-- `evaluating::constant_value` meets its contract: the constant is the function's first argument word. Assumes nothing.
use Rattle.evaluating.proofs.PlaceLaws.{named_constant}
use Rattle.evaluating.proofs.constant_value.Goals as goal

pub returns : goal.returns
returns c = search named_constant
