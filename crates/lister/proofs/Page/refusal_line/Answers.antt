-- `lister::Page::refusal_line` meets its contract: its word, the three numbers and a line feed are typed one after the other. Assumes nothing.
use Rattle.lister.proofs.LineLaws.{refusal_line_typed}
use Rattle.lister.proofs.Page.refusal_line.Goals as goal

pub returns : goal.returns
returns c = search refusal_line_typed
