-- `access::argument_words` meets its contract: each branch has decided the definition's tests up to its own. Assumes nothing.
use native.Mathlib.Omega.{arith}
use borrow.Author.Tests.{le-leb, lt-leb, eq-eqb, ne_eqb}
use Rattle.grammar.specs.Table.{argument_words}
use Rattle.access.proofs.argument_words.Goals as goal

pub returns-then-op-le1-clause-value : goal.returns-then-op-le1-clause-value
unfolding argument_words
returns-then-op-le1-clause-value c = simp (le-leb _ _ c.if-op-le1.true)

pub returns-then-op-le1-clause-upper_bound : goal.returns-then-op-le1-clause-upper_bound
unfolding argument_words
returns-then-op-le1-clause-upper_bound c = omega arith

pub returns-then-op-le6-clause-value : goal.returns-then-op-le6-clause-value
unfolding argument_words
returns-then-op-le6-clause-value c = simp (lt-leb _ _ c.if-op-le1.false, le-leb _ _ c.if-op-le6.true)

pub returns-then-op-le6-clause-upper_bound : goal.returns-then-op-le6-clause-upper_bound
unfolding argument_words
returns-then-op-le6-clause-upper_bound c = omega arith

pub returns-then-op-eq7-clause-value : goal.returns-then-op-eq7-clause-value
unfolding argument_words
returns-then-op-eq7-clause-value c = simp (lt-leb _ _ c.if-op-le1.false, lt-leb _ _ c.if-op-le6.false, eq-eqb _ _ c.if-op-eq7.true)

pub returns-then-op-eq7-clause-upper_bound : goal.returns-then-op-eq7-clause-upper_bound
unfolding argument_words
returns-then-op-eq7-clause-upper_bound c = omega arith

pub returns-clause-value : goal.returns-clause-value
unfolding argument_words
returns-clause-value c = simp (lt-leb _ _ c.if-op-le1.false, lt-leb _ _ c.if-op-le6.false, ne_eqb _ _ c.if-op-eq7.false)

pub returns-clause-upper_bound : goal.returns-clause-upper_bound
unfolding argument_words
returns-clause-upper_bound c = omega arith
