-- The number grows smaller, so it ends. Assumes nothing.
use Rattle.lister.proofs.Page.+decimal.Given as goal

abbrev pub decreases-decimal : goal.decreases-decimal
decreases-decimal l = l.n
