-- What `run` answers and what it leaves in the three lent buffers, for every table, tree and budget and whatever was lent: the contract of
-- `run` is this record. Assumes nothing.
use Rattle.std.specs.Prelude.{ℕ, ◌≡◌, List, ℤ, Result}
use Rattle.refusals.specs.declared.Refusal.{Refusal}
use Rattle.plans.specs.Answer.{rows_after, plan_after}
use Rattle.runs.specs.declared.Report.{Report}
use Rattle.runner.specs.Whole.{came, answer, values}

-- g is the table and t the tree; rows, plan and vs are as they were lent, rows', plan' and vs' as they are left
pub record Answered (g rows plan t : List ℕ) (vs : List ℤ) (budget : ℕ) (answered : Result Report Refusal) (vs' : List ℤ) (rows' plan' : List ℕ) : Type 0 where
  pub answers : answered ≡ answer g rows plan t vs budget
  pub values_are : vs' ≡ values g rows plan t vs budget
  pub rows_are : rows' ≡ rows_after g (came g rows plan) rows
  pub plan_is : plan' ≡ plan_after g (came g rows plan) plan
