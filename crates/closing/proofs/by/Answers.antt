-- The row leads to m and gets what m leads to, or it stays.
use Rattle.closing.proofs.PassLaws.{by_way, no_by_way}
use Rattle.closing.proofs.by.Goals as goal

pub returns-then-has : goal.returns-then-has
returns-then-has c = search by_way

pub returns : goal.returns
returns c = search no_by_way
