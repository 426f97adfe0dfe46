-- `checking::nodes::nonterminal` meets its contract: it tests the symbol's kind, which is the first of its three words. Assumes nothing.
use Rattle.checking.proofs.NodeTestLaws.{symbol_room, symbol_few, kind_zero}
use native.Mathlib.Omega.{arith}
use Rattle.checking.proofs.nodes.nonterminal.Goals as goal

pub overflow_mul-x : goal.overflow_mul-x
overflow_mul-x c = omega (arith, symbol_few _ c.args.table.now.accepted _ c.requires)

pub overflow_add-x : goal.overflow_add-x
overflow_add-x c = omega (arith, symbol_few _ c.args.table.now.accepted _ c.requires)

pub known-requires : goal.known-requires
known-requires c = search symbol_room

pub returns : goal.returns
returns c = search kind_zero
