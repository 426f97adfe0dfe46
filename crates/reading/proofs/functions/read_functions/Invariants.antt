-- `reading::functions::read_functions` meets its contract. The invariant AtFunction: so many functions passed, the next starts at f, and the set
-- holds what they left undefined. A target that passed is an occurrence, so it is below 64 and can leave the set. Assumes nothing.
use Rattle.reading.proofs.FunctionLoop.{AtFunction}
use Rattle.reading.proofs.functions.read_functions.Given as goal

abbrev pub invariant-loop : goal.invariant-loop
invariant-loop l = AtFunction l.rule.words.now l.rule.at l.occurrences l.defining l.count l.f l.undefined l.counter
