-- `lister::Page::first_line` meets its contract: its word, the two counts and a line feed are typed one after the other. Assumes nothing.
use Rattle.lister.proofs.PlanLaws.{first_line_typed}
use Rattle.lister.proofs.Page.first_line.Goals as goal

pub returns : goal.returns
returns c = search first_line_typed
