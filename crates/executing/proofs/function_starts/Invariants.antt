-- `executing::function_starts` meets its contract. The invariant AllLocated: the functions of the rules before r are noted; each rule has 64 words of
-- its own, so the next rule leaves them as they are. Assumes nothing.
use Rattle.executing.proofs.LocatedLaws.{AllLocated}
use Rattle.executing.proofs.function_starts.Given as goal

abbrev pub invariant-loop-r : goal.invariant-loop-r
invariant-loop-r l = AllLocated l.table.words.now l.starts l.r l.r-end
