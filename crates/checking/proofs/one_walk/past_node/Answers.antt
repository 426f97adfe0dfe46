-- `checking::one_walk::past_node` meets its contract: a node that passes 13 and 14 leaves the walk as it should be, with its symbol held against what
-- is written down for it. In a tree that the walk answers for, the parent wrote that symbol. Assumes nothing.
use mathlib.Core.Path.{refl}
use Rattle.checking.proofs.FirstOrphanLaws.{walk_same, walk_none, not_unread, past_differs}
use Rattle.checking.proofs.OneWalkLaws.{still_unsure}
use Rattle.checking.proofs.one_walk.past_node.Goals as goal

pub returns-in_err-symbol : goal.returns-in_err-symbol
returns-in_err-symbol c = still_unsure _ _ _ c.from_residual.ensures.0 (search (not_unread, c.in_err-symbol.ensures))

pub returns-then-written-symbol : goal.returns-then-written-symbol
returns-then-written-symbol c = search (walk_same, c.in_ok-symbol.ensures)

pub returns-then-written : goal.returns-then-written
returns-then-written c = past_differs _ _ _ _ _ _ c.requires.walked _ _ _ c.requires.n_lt_nodes c.in_ok-symbol.ensures refl c.if-written-symbol.false c.if-written.true

pub returns : goal.returns
returns c = search (walk_none, c.in_ok-symbol.ensures)
