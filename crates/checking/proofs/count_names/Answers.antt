-- `checking::count_names` meets its contract: the invariant CountedTo says that the counts are those of the nodes so far; a node adds what its
-- used slots name.
-- Assumes nothing.
use Rattle.checking.proofs.NameLaws.{counted_start, counted_known, counted_naming, counted_turn, counted_finish}
use Rattle.checking.proofs.count_names.Goals as goal

pub loop-n-init : goal.loop-n-init
loop-n-init c = search counted_start

pub used_slots-requires-clause-known : goal.used_slots-requires-clause-known
used_slots-requires-clause-known c = search counted_known

pub name_children-requires : goal.name_children-requires
name_children-requires c = search counted_naming

pub loop-n-preserved : goal.loop-n-preserved
loop-n-preserved c = search counted_turn

pub returns : goal.returns
returns c = search counted_finish
