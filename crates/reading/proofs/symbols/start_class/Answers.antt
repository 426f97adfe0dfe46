-- `reading::symbols::start_class` meets its contract: the class is tested of the symbol that word 2 names. Assumes nothing.
use Rattle.grammar.specs.Reading.{start_class}
use Rattle.access.proofs.Laws.{unless_of, class_of}
use Rattle.reading.proofs.symbols.start_class.Goals as goal

pub returns : goal.returns
unfolding start_class
returns c = search (unless_of, class_of)
