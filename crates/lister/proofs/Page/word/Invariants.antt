-- `lister::Page::word` meets its contract: the invariant is that the bytes before the next are typed. Assumes nothing.
use lib.ListN.{take}
use Rattle.lister.specs.Shown.{Types}
use Rattle.lister.proofs.Page.word.Given as goal

abbrev pub invariant-loop-b : goal.invariant-loop-b
invariant-loop-b l = Types l.fn.self (take l.b-index l.word) l.self
