-- `checking::nodes::slots_match` meets its contract: it tests each used slot. Assumes nothing.
use Prim.Native.Nat.{◌+◌}
use mathlib.Core.Bool.{true, false}
use mathlib.Core.Path.{◌≡◌, refl}
use native.Mathlib.Omega.{arith}
use borrow.Author.Tests.{tests}
use borrow.Author.Rules.{rules}
use Rattle.std.proofs.lemmas.Iterator.{cases_from_all, YieldsList-from_range}
use Rattle.checking.specs.Walk.{child_test, child_tests_to}
use Rattle.checking.proofs.NodeTestLaws.{range_tests}
use Rattle.checking.proofs.nodes.slots_match.Goals as goal

pub returns : goal.returns
unfolding child_tests_to
returns c =
    range_tests c.args.used (λ i. child_test c.args.table.now.words.now c.args.t.now c.args.n i) _
    (cases_from_all _ _ _ (λ i. child_test c.args.table.now.words.now c.args.t.now c.args.n i ≡ true)
    (λ i. child_test c.args.table.now.words.now c.args.t.now c.args.n i ≡ false) c.all.ensures.ran
    (YieldsList-from_range 1 (c.args.used + 1) c.args.used refl (omega arith)) (λ x q k. search (rules, tests)) (λ x q k. search (rules, tests)))
