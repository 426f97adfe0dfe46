-- What `plan` answers and what it leaves in the two lent buffers, for every table and whatever was lent: the contract of `plan` is this record.
-- Assumes nothing.
use Rattle.std.specs.Prelude.{ℕ, ◌≡◌, List, length, Result}
use Rattle.refusals.specs.declared.Refusal.{Refusal}
use Rattle.plans.specs.Answer.{outcome, answer_of, rows_after, plan_after}

-- g is the table, rows and plan are as they were lent, rows' and plan' as they are left
pub record Answered (g rows plan : List ℕ) (answer : Result ℕ Refusal) (rows' plan' : List ℕ) : Type 0 where
  pub answers : answer ≡ answer_of g (outcome g (length rows) (length plan))
  pub rows_are : rows' ≡ rows_after g (outcome g (length rows) (length plan)) rows
  pub plan_is : plan' ≡ plan_after g (outcome g (length rows) (length plan)) plan
