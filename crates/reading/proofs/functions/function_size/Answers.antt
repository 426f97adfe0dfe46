-- `reading::functions::function_size` meets its contract: a function that passes as a whole is good, and any other is looked at word by word.
-- Assumes nothing.
use Rattle.reading.proofs.FunctionLoop.{operation_there}
use Rattle.reading.proofs.WholeLaws.{read_whole}
use borrow.Author.Rules.{rules}
use Rattle.reading.proofs.functions.function_size.Goals as goal

pub returns-in-Some : goal.returns-in-Some
returns-in-Some c = search (read_whole, c.in-Some.ensures)

pub known-requires : goal.known-requires
known-requires c = operation_there _ _ _ _ _ c.word_by_word.ensures c.in_ok-word_by_word.was
