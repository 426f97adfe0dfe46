-- `checking::one_walk::is_new` meets its contract: the tests are those of the definition, in their order. Assumes nothing.
use Rattle.checking.proofs.OneWalkLaws.{new_low, new_past, new_tested, new_none}
use Rattle.checking.proofs.one_walk.is_new.Goals.{then-n-child, else-n-child}
use Rattle.checking.proofs.one_walk.is_new.Goals as goal

pub returns-then-child-t : goal.returns-then-child-t
returns-then-child-t c = elim c.if-n-child.branch [ then-n-child w ↦ search new_tested | else-n-child w ↦ search new_none ]

pub returns-else-child-t : goal.returns-else-child-t
returns-else-child-t c = elim c.if-n-child.branch [ then-n-child w ↦ search new_past | else-n-child w ↦ search new_low ]
