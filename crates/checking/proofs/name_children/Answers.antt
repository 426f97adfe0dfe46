-- `checking::name_children` meets its contract: the invariant NamedTo says that each count has grown by the slots so far that name its node. A node has at
-- most seven, so no count passes 16 bits.
-- Assumes nothing.
use Rattle.checking.proofs.NameLaws.{slot_under, slot_read, slots_done, named_start, named_inside, named_fits, named_turn, named_finish}
use Rattle.checking.proofs.name_children.Goals as goal

pub loop-child-init : goal.loop-child-init
loop-child-init c = search named_start

pub bounds-named-child : goal.bounds-named-child
bounds-named-child c = search (named_inside, slot_under, slot_read)

pub overflow_add-named : goal.overflow_add-named
overflow_add-named c = record { fits = search (named_fits, slot_under, slot_read) }

pub bounds-named-child-in-loop-child : goal.bounds-named-child-in-loop-child
bounds-named-child-in-loop-child c = search (named_inside, slot_under, slot_read)

pub loop-child-preserved : goal.loop-child-preserved
loop-child-preserved c = search (named_turn, slot_under, slot_read)

pub returns : goal.returns
returns c = search (named_finish, slots_done)
