-- What `skarnuth_plan` and `skarnuth_run` answer and leave in everything that is lent to them, for every input: their contracts are these
-- records. Assumes nothing.
use Rattle.std.specs.Prelude.{ℕ, ◌≡◌, List, ℤ, length}
use Rattle.plans.specs.Answer.{outcome, rows_after, plan_after}
use Rattle.runner.specs.Whole.{came, values}
use Rattle.exports.specs.Told.{planning, running}

-- g is the table, rows and plan are as they were lent; status' is the answer, the others are what is left
pub record PlanAnswered (g rows plan : List ℕ) (status' count' number' place' second' : ℕ) (rows' plan' : List ℕ) : Type 0 where
  pub status : status' ≡ (planning g rows plan).status
  pub count : count' ≡ (planning g rows plan).count
  pub number : number' ≡ (planning g rows plan).number
  pub place : place' ≡ (planning g rows plan).place
  pub second : second' ≡ (planning g rows plan).second
  pub rows_are : rows' ≡ rows_after g (outcome g (length rows) (length plan)) rows
  pub plan_is : plan' ≡ plan_after g (outcome g (length rows) (length plan)) plan

-- t is the tree and vs the values as they were lent
pub record RunAnswered (g rows plan t : List ℕ) (vs : List ℤ) (budget status' count' number' place' second' : ℕ) (vs' : List ℤ)
    (rows' plan' : List ℕ) : Type 0 where
  pub status : status' ≡ (running g rows plan t vs budget).status
  pub count : count' ≡ (running g rows plan t vs budget).count
  pub number : number' ≡ (running g rows plan t vs budget).number
  pub place : place' ≡ (running g rows plan t vs budget).place
  pub second : second' ≡ (running g rows plan t vs budget).second
  pub values_are : vs' ≡ values g rows plan t vs budget
  pub rows_are : rows' ≡ rows_after g (came g rows plan) rows
  pub plan_is : plan' ≡ plan_after g (came g rows plan) plan
