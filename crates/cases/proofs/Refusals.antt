-- What the refusals mean. Of the reader, of planning, of the check of a tree and of a whole run: it refuses with n exactly if n is the
-- first case of document 01's table that applies, and goes on exactly if none applies. Assumes nothing.
use Prim.Native.Nat.{ℕ}
use mathlib.Core.Path.{◌≡◌}
use mathlib.Core.Logic.{◌↔◌}
use mathlib.Core.List.{List}
use lib.IntN.{ℤ}
use lib.ListN.{length}
use Rattle.std.specs.Prelude.{Ok, Err}
use Rattle.refusals.specs.declared.Refusal.{Refusal}
use Rattle.grammar.specs.Verdicts.{Good, Refused}
use Rattle.grammar.specs.Limits.{plan_words}
use Rattle.grammar.specs.Table.{rules}
use Rattle.grammar.specs.Reading.{read_table}
use Rattle.grammar.proofs.AcceptedTable.{accepted as well_formed}
use Rattle.plans.specs.Answer.{accepted, outcome, answer_of}
use Rattle.trees.specs.Checking.{check_tree}
use Rattle.runner.specs.Whole.{answer}
use Rattle.cases.specs.First.{FirstCase}
use Rattle.cases.specs.TableCases.{TableCase}
use Rattle.cases.specs.PlanningCases.{PlanCase}
use Rattle.cases.specs.TreeCases.{TreeCase}
use Rattle.cases.specs.AllCases.{RunCase, PlanRefuses, Refuses}
use Rattle.cases.proofs.TableTests.{table_verdict}
use Rattle.cases.proofs.PlanOutcomes.{refused_with}
use Rattle.cases.proofs.PlanOutcomes as outcomes
use Rattle.cases.proofs.PlanTests as plan
use Rattle.cases.proofs.TreeTests.{tree_verdict}
use Rattle.cases.proofs.RunTests as run

-- the reader: 1 to 7
pub table_refused : (g : List ℕ) (n : Refusal) → (read_table g ≡ Refused n) ↔ FirstCase g (TableCase g) n
table_refused g n = (table_verdict g).refused n

pub table_good : (g : List ℕ) → (read_table g ≡ Good) ↔ ((n : Refusal) → ¬ TableCase g n)
table_good g = (table_verdict g).good

-- the check of a tree, for a table that is read: 12 to 18
pub tree_refused : (g t : List ℕ) (values_length : ℕ) → read_table g ≡ Good → (n : Refusal)
    → (check_tree g t values_length ≡ Refused n) ↔ FirstCase g (TreeCase g t values_length) n
tree_refused g t values_length good n = (tree_verdict g t values_length (well_formed g good)).refused n

pub tree_good : (g t : List ℕ) (values_length : ℕ) → read_table g ≡ Good
    → (check_tree g t values_length ≡ Good) ↔ ((n : Refusal) → ¬ TreeCase g t values_length n)
tree_good g t values_length good = (tree_verdict g t values_length (well_formed g good)).good

module _ (g : List ℕ) (rows_length plan_length : ℕ) where
  -- planning: 1 to 10, how far it comes and what it answers
  pub outcome_refused : (n : Refusal) → (outcome g rows_length plan_length ≡ refused_with g n) ↔ PlanRefuses g rows_length plan_length n
  outcome_refused n = outcomes.plan_outcome g rows_length plan_length n

  pub outcome_accepted : (outcome g rows_length plan_length ≡ accepted) ↔ ((n : Refusal) → ¬ PlanCase g rows_length plan_length n)
  outcome_accepted = outcomes.plan_done g rows_length plan_length

  pub planning_refused : (n : Refusal)
      → (answer_of g (outcome g rows_length plan_length) ≡ Err n) ↔ PlanRefuses g rows_length plan_length n
  planning_refused n = plan.plan_refused g rows_length plan_length n

  pub planning_accepted : (k : ℕ) → (answer_of g (outcome g rows_length plan_length) ≡ Ok k)
      ↔ ((k ≡ plan_words (rules g)) × ((n : Refusal) → ¬ PlanCase g rows_length plan_length n))
  planning_accepted = plan.plan_accepted g rows_length plan_length

module _ (g rows plan t : List ℕ) (values : List ℤ) (budget : ℕ) where
  -- a whole run: 1 to 18
  pub run_refused : (n : Refusal)
      → (answer g rows plan t values budget ≡ Err n) ↔ Refuses g (length rows) (length plan) t (length values) n
  run_refused n = run.run_refused g rows plan t values budget n

  pub run_carried_out : ((n : Refusal) → ¬ (answer g rows plan t values budget ≡ Err n))
      ↔ ((n : Refusal) → ¬ RunCase g (length rows) (length plan) t (length values) n)
  run_carried_out = run.run_carried_out g rows plan t values budget
