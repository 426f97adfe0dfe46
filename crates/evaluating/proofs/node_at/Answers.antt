-- `evaluating::node_at` meets its contract: position 0 is the node itself, and above it stands the child's word. Assumes nothing.
use mathlib.Core.Path.{sym, ◌∙◌}
use native.Mathlib.Omega.{arith}
use Rattle.trees.proofs.Cells.{node_left, node_child}
use Rattle.evaluating.proofs.node_at.Goals as goal

pub returns-then-i-eq0 : goal.returns-then-i-eq0
returns-then-i-eq0 c = (sym (node_left _ _ _ c.if-i-eq0.true), omega arith)

pub returns : goal.returns
returns c = (c.known.ensures.value ∙ sym (node_child _ _ _ (omega arith)), omega arith)
