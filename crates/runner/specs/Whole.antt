-- Document 01: what a whole run answers and leaves, for every table, tree, length of the buffers and budget.
-- Computed: no demand rests on it. Assumes nothing.
use Rattle.std.specs.Prelude.{ℕ, ◌≤◌, ◌≡◌, List, ℤ, length, Result}
use Rattle.refusals.specs.declared.Refusal.{Refusal}
use Rattle.grammar.specs.Limits.{plan_words}
use Rattle.grammar.specs.Table.{rules}
use Rattle.plans.specs.Answer.{Outcome, accepted, outcome, plan_after}
use Rattle.trees.specs.Checking.{check_tree}
use Rattle.runs.specs.declared.Report.{Report}
use Rattle.runs.specs.Sound as sound
use Rattle.runs.specs.Run.{run_answer, values_after}

-- how far planning comes, and the plan that it leaves
unfoldable pub came : List ℕ → List ℕ → List ℕ → Outcome
came g rows plan = outcome g (length rows) (length plan)

abbrev pub left_plan : List ℕ → List ℕ → List ℕ → List ℕ
left_plan g rows plan = plan_after g (came g rows plan) plan

-- what the run answers, and the values that it leaves
unfoldable pub answer : List ℕ → List ℕ → List ℕ → List ℕ → List ℤ → ℕ → Result Report Refusal
answer g rows plan t values budget =
    run_answer g (left_plan g rows plan) t (came g rows plan) (check_tree g t (length values)) values budget

unfoldable pub values : List ℕ → List ℕ → List ℕ → List ℕ → List ℤ → ℕ → List ℤ
values g rows plan t vs budget =
    values_after g (left_plan g rows plan) t (came g rows plan) (check_tree g t (length vs)) vs budget

-- p is a plan of an accepted table that can be run, whoever drew it up: the plan is sound and none of it is missing
pub record Runnable (g p : List ℕ) : Type 0 where
  pub sound_plan : sound.Sound g p
  pub long : plan_words (rules g) ≤ length p

-- what the check of the tree and the run of plan p answer and leave
pub record Checked (g p t : List ℕ) (vs : List ℤ) (budget : ℕ) (answered : Result Report Refusal) (vs' : List ℤ) : Type 0 where
  pub answers : answered ≡ run_answer g p t accepted (check_tree g t (length vs)) vs budget
  pub values_are : vs' ≡ values_after g p t accepted (check_tree g t (length vs)) vs budget
