-- `reading::functions::four_occur` meets its contract: a word past 64 is a member of no set, and else the four are occurrences exactly where the set of
-- them has nothing besides. Assumes nothing.
use borrow.Author.Rules.{rules}
use Rattle.reading.proofs.WholeLaws.{first_past, second_past, third_past, fourth_past, four_inside}
use Rattle.reading.proofs.functions.four_occur.Goals as goal

pub returns-then-a-ge64 : goal.returns-then-a-ge64
returns-then-a-ge64 c = search (first_past, rules)

pub returns-then-b-ge64 : goal.returns-then-b-ge64
returns-then-b-ge64 c = search (second_past, rules)

pub returns-then-c-ge64 : goal.returns-then-c-ge64
returns-then-c-ge64 c = search (third_past, rules)

pub returns-then-d-ge64 : goal.returns-then-d-ge64
returns-then-d-ge64 c = search (fourth_past, rules)

pub returns : goal.returns
returns c = search four_inside
