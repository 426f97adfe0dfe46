-- `bits::rest` meets its contract: one less than a set turns its lowest member off and the places below it on, and keeps the rest; the common
-- part is the set without that member. Assumes nothing.
use borrow.Author.Rules.{rules}
use Rattle.bits.proofs.RestLaws.{rest_is}
use Rattle.bits.proofs.rest.Goals as goal

pub returns : goal.returns
returns c = search (rest_is, rules)
