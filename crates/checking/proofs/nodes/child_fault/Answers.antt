-- `checking::nodes::child_fault` meets its contract: 16 is refused exactly where the children do not fit. Assumes nothing.
use Rattle.checking.proofs.NodeTestLaws.{children_passed, children_refused}
use Rattle.checking.proofs.nodes.child_fault.Goals as goal

pub returns-then-not-children_fit : goal.returns-then-not-children_fit
returns-then-not-children_fit c = search children_refused

pub returns : goal.returns
returns c = search children_passed
