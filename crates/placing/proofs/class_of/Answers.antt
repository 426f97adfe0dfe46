-- An odd number has the attributes that are not inherited, an even one those that are.
use Rattle.placing.proofs.StepLaws.{class_odd, class_even}
use Rattle.placing.proofs.class_of.Goals as goal

pub returns-then-k-eq1 : goal.returns-then-k-eq1
returns-then-k-eq1 c = search class_odd

pub returns : goal.returns
returns c = search class_even
