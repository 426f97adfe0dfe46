-- `access::next_function` meets its contract: a function is two words and the argument words of its operation. Assumes nothing.
use mathlib.Core.Path.{◌∙◌, ap}
use native.Mathlib.Omega.{arith}
use Rattle.grammar.specs.Table.{argument_words}
use Rattle.access.proofs.next_function.Goals as goal

pub returns : goal.returns
returns c = omega (arith, c.argument_words.ensures.value ∙ ap argument_words c.word.ensures.value)
