-- What a C caller is told of an answer: five numbers. The status is 0 for accepted or done, 1 for stopped, 2 for refused. The count stands beside
-- 0 and 1, document 01's number and places beside 2; whatever does not belong to the status is 0.
-- Assumes nothing.
use Rattle.std.specs.Prelude.{ℕ, List, ℤ, length, Result, Ok, Err}
use Rattle.refusals.specs.declared.Refusal.{Refusal}
use Rattle.refusals.specs.Numbers.{number_of, place_of, second_of}
use Rattle.plans.specs.Answer.{outcome, answer_of}
use Rattle.runs.specs.declared.Ran as R
use Rattle.runs.specs.declared.Report.{Report}
use Rattle.runner.specs.Whole as whole

pub record Told : Type 0 where
  pub status : ℕ
  pub count : ℕ
  pub number : ℕ
  pub place : ℕ
  pub second : ℕ

abbrev pub counted : ℕ → ℕ → Told
counted status n = record { status = status; count = n; number = 0; place = 0; second = 0 }

abbrev pub refused : Refusal → Told
refused n = record { status = 2; count = 0; number = number_of n; place = place_of n; second = second_of n }

-- each case of the two answers
abbrev pub plan_told : Result ℕ Refusal → Told
plan_told (Ok n) = counted 0 n
plan_told (Err n) = refused n

abbrev pub ran_told : R.Ran → Told
ran_told (R.TheVariants.Done n) = counted 0 n
ran_told (R.TheVariants.Stopped n) = counted 1 n

abbrev pub run_told : Result Report Refusal → Told
run_told (Ok report) = ran_told report.ran
run_told (Err n) = refused n

-- what is told of planning table g with these rows and this plan lent, as the contract of `planner::plan` has it
abbrev pub planning : List ℕ → List ℕ → List ℕ → Told
planning g rows plan = plan_told (answer_of g (outcome g (length rows) (length plan)))

-- what is told of a run, as the contract of `runner::run` has it
abbrev pub running : List ℕ → List ℕ → List ℕ → List ℕ → List ℤ → ℕ → Told
running g rows plan t values budget = run_told (whole.answer g rows plan t values budget)
