-- Arc k leads from attribute k / 8 to attribute k % 8, which must be one of the first count.
use Rattle.extending.proofs.DescentLaws.{descends_here, descends_past}
use Rattle.extending.proofs.descends.Goals as goal

pub returns-then-b-count : goal.returns-then-b-count
returns-then-b-count c = search descends_here

pub returns : goal.returns
returns c = search descends_past
