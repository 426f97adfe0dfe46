-- `checking::one_walk::unused_word` meets its contract: a used slot counts for nothing, another for what it holds. Assumes nothing.
use Rattle.checking.proofs.OneWalkLaws.{word_used, word_unused}
use native.Mathlib.Omega.{arith}
use Rattle.checking.proofs.one_walk.unused_word.Goals as goal

pub returns-then-i-used-clause-value : goal.returns-then-i-used-clause-value
returns-then-i-used-clause-value c = search word_used

pub returns-then-i-used-clause-upper_bound : goal.returns-then-i-used-clause-upper_bound
returns-then-i-used-clause-upper_bound c = omega arith

pub returns-clause-value : goal.returns-clause-value
returns-clause-value c = search word_unused
