-- `reading::functions::function_words` meets its contract: a target that may not be defined fails, and else the operands decide. Assumes nothing.
use Rattle.reading.proofs.WholeLaws.{target_passes, target_fails}
use borrow.Author.Rules.{rules}
use Rattle.reading.proofs.functions.function_words.Goals as goal

pub returns-then-not-may_define : goal.returns-then-not-may_define
returns-then-not-may_define c = search (target_fails, rules)

pub returns : goal.returns
returns c = search (target_passes, rules)
