-- `checking::nodes::slots_fit` meets its contract: it tests each of the seven slots. Assumes nothing.
use mathlib.Core.Bool.{true, false}
use mathlib.Core.Path.{◌≡◌, refl}
use borrow.Author.Tests.{tests}
use borrow.Author.Rules.{rules}
use Rattle.std.proofs.lemmas.Iterator.{cases_from_all, YieldsList-from_range}
use Rattle.checking.specs.Walk.{slot_test, slot_tests_to}
use Rattle.checking.proofs.NodeTestLaws.{range_tests}
use Rattle.checking.proofs.nodes.slots_fit.Goals as goal

pub returns : goal.returns
unfolding slot_tests_to
returns c =
    range_tests 7 (λ i. slot_test c.args.t.now c.args.n i c.args.used) _
    (cases_from_all _ _ _ (λ i. slot_test c.args.t.now c.args.n i c.args.used ≡ true) (λ i. slot_test c.args.t.now c.args.n i c.args.used ≡ false)
    c.all.ensures.ran (YieldsList-from_range 1 8 7 refl refl) (λ x q k. search (rules, tests)) (λ x q k. search (rules, tests)))
