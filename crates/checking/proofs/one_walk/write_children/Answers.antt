-- `checking::one_walk::write_children` meets its contract: the invariant WrittenTo says that the symbols of the slots so far are written down, each
-- for a node above for which nothing was written; a slot that names no such node refuses. Assumes nothing.
use Rattle.checking.proofs.NameLaws.{slot_under, slot_read, slots_done}
use Rattle.checking.proofs.OneWalkLaws.{write_start, write_on, write_place, write_there, write_fits, write_turn, write_end, write_refused}
use Rattle.checking.proofs.one_walk.write_children.Goals as goal

pub loop-i-init : goal.loop-i-init
loop-i-init c = search write_start

pub is_new-requires : goal.is_new-requires
is_new-requires c = search write_on

pub returns-then-not-is_new : goal.returns-then-not-is_new
returns-then-not-is_new c = search (write_refused, slot_under, slot_read)

pub bounds-wanted-child : goal.bounds-wanted-child
bounds-wanted-child c = search write_place

pub loop-i-preserved : goal.loop-i-preserved
loop-i-preserved c = search (write_turn, slot_under, slot_read)

pub returns : goal.returns
returns c = search (write_end, slots_done)
