-- `lister::Page::number` meets its contract: a blank, then the digits. Assumes nothing.
use Rattle.lister.proofs.LineLaws.{blank_number}
use Rattle.lister.proofs.Page.number.Goals as goal

pub returns : goal.returns
returns c = search blank_number
