-- `remaining::of_children` meets its contract. After i turns the set holds what is found of children 1 to i: each child has eight bits of its own,
-- and the left side, which is no child, has none. Assumes nothing.
use borrow.Author.Rules.{rules}
use Rattle.remaining.proofs.BlockSetLaws.{calling_start, calling_low, calling_block, calling_place, calling_turn, calling_finish}
use Rattle.remaining.proofs.of_children.Goals as goal

pub loop-i-init : goal.loop-i-init
loop-i-init c = search (calling_start, rules)

pub bounds-kept-symbol : goal.bounds-kept-symbol
bounds-kept-symbol c = search calling_low

pub raised-requires : goal.raised-requires
raised-requires c = (search calling_block, search calling_place)

pub loop-i-preserved : goal.loop-i-preserved
loop-i-preserved c = search (calling_turn, c.loop-i.invariant, c.loop-i-test.true, c.symbol.ensures.value, c.field-child.ensures, c.raised.ensures, c.union-found.ensures)

pub returns : goal.returns
returns c = search calling_finish
