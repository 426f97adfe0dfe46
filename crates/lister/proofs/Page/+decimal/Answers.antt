-- `lister::Page::decimal` meets its contract: what stands before the last digit is typed, where there is any, and then that digit. Assumes nothing.
use Rattle.lister.proofs.LineLaws.{one_digit, more_digits}
use Rattle.lister.proofs.Page.+decimal.Goals.{then-n-ge10, else-n-ge10}
use Rattle.lister.proofs.Page.+decimal.Goals as goal

pub returns : goal.returns
returns t c = elim c.if-n-ge10.branch [
  | then-n-ge10 w ↦ more_digits _ c.ranges.n.fits w.if-n-ge10.true w.decimal.ensures w.self-is c.put.ensures
  | else-n-ge10 w ↦ one_digit _ w.if-n-ge10.false w.self-is c.put.ensures
]
