-- `reading::functions::operand_words` meets its contract: an operation has one, two, three or four argument words, and those of each stand among the
-- four that are tested; a constant's word is not looked at. Assumes nothing.
use Rattle.reading.proofs.WholeLaws.{operation_past, constant_words, one_word, two_words, three_words, four_words}
use borrow.Author.Rules.{rules}
use Rattle.reading.proofs.functions.operand_words.Goals as goal

pub returns-then-op-eq8 : goal.returns-then-op-eq8
returns-then-op-eq8 c = search four_words

pub returns-then-op-eq7 : goal.returns-then-op-eq7
returns-then-op-eq7 c = search three_words

pub returns-then-op-gt8 : goal.returns-then-op-gt8
returns-then-op-gt8 c = search operation_past

pub returns-then-op-ge2 : goal.returns-then-op-ge2
returns-then-op-ge2 c = search (two_words, rules)

pub returns-then-op-eq1 : goal.returns-then-op-eq1
returns-then-op-eq1 c = search one_word

pub returns : goal.returns
returns c = search (constant_words, rules)
