-- `next` of the walk over a set meets its contract: each member lessens what is left, and the code takes out the one that is named. Assumes nothing.
use Rattle.bits.proofs.RestLaws.{rest_less}
use Rattle.bits.proofs.LowestFirstIterator.next.Goals as goal

pub returns-clause-goes : goal.returns-clause-goes
returns-clause-goes c =
    record { on = λ t. (tt, tt, rest_less c.args.self.now.left c.first-a.result c.rest-self.result c.first-a.ensures c.rest-self.ensures); keeps = tt; rests = λ t. tt }
