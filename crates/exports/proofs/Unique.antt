-- For every input there is one status, one content of the four numbers and one content of every buffer that meet the contract of
-- `skarnuth_plan`, and only one; and so for `skarnuth_run`. Assumes nothing.
use mathlib.Core.Path.{◌≡◌, refl, sym, ◌∙◌}
use mathlib.Core.List.{List}
use Prim.Native.Nat.{ℕ}
use lib.IntN.{ℤ}
use lib.ListN.{length}
use Rattle.plans.specs.Answer.{Outcome, outcome, rows_after, plan_after}
use Rattle.runner.specs.Whole.{came, values}
use Rattle.exports.specs.Told.{Told, planning, running}
use Rattle.exports.specs.Answered.{PlanAnswered, RunAnswered}

pub plan_every_input : (g rows plan : List ℕ)
    → (told : Told) × (rows' : List ℕ) × (plan' : List ℕ)
    × PlanAnswered g rows plan told.status told.count told.number told.place told.second rows' plan'
plan_every_input g rows plan =
    let o : Outcome = outcome g (length rows) (length plan) in (
      planning g rows plan,
      rows_after g o rows,
      plan_after g o plan,
      record { status = refl; count = refl; number = refl; place = refl; second = refl; rows_are = refl; plan_is = refl },
    )

pub plan_one_answer : (g rows plan : List ℕ) (s₁ n₁ a₁ b₁ c₁ s₂ n₂ a₂ b₂ c₂ : ℕ) (rows₁ plan₁ rows₂ plan₂ : List ℕ)
    → PlanAnswered g rows plan s₁ n₁ a₁ b₁ c₁ rows₁ plan₁ → PlanAnswered g rows plan s₂ n₂ a₂ b₂ c₂ rows₂ plan₂
    → (s₁ ≡ s₂) × (n₁ ≡ n₂) × (a₁ ≡ a₂) × (b₁ ≡ b₂) × (c₁ ≡ c₂) × (rows₁ ≡ rows₂) × (plan₁ ≡ plan₂)
plan_one_answer g rows plan s₁ n₁ a₁ b₁ c₁ s₂ n₂ a₂ b₂ c₂ rows₁ plan₁ rows₂ plan₂ v w = (
  v.status ∙ sym w.status,
  v.count ∙ sym w.count,
  v.number ∙ sym w.number,
  v.place ∙ sym w.place,
  v.second ∙ sym w.second,
  v.rows_are ∙ sym w.rows_are,
  v.plan_is ∙ sym w.plan_is,
)

pub run_every_input : (g rows plan t : List ℕ) (vs : List ℤ) (budget : ℕ)
    → (told : Told) × (vs' : List ℤ) × (rows' : List ℕ) × (plan' : List ℕ)
    × RunAnswered g rows plan t vs budget told.status told.count told.number told.place told.second vs' rows' plan'
run_every_input g rows plan t vs budget = (
  running g rows plan t vs budget,
  values g rows plan t vs budget,
  rows_after g (came g rows plan) rows,
  plan_after g (came g rows plan) plan,
  record { status = refl; count = refl; number = refl; place = refl; second = refl; values_are = refl; rows_are = refl; plan_is = refl },
)

pub run_one_answer : (g rows plan t : List ℕ) (vs : List ℤ) (budget s₁ n₁ a₁ b₁ c₁ s₂ n₂ a₂ b₂ c₂ : ℕ) (vs₁ : List ℤ) (rows₁ plan₁ : List ℕ)
    (vs₂ : List ℤ) (rows₂ plan₂ : List ℕ) → RunAnswered g rows plan t vs budget s₁ n₁ a₁ b₁ c₁ vs₁ rows₁ plan₁
    → RunAnswered g rows plan t vs budget s₂ n₂ a₂ b₂ c₂ vs₂ rows₂ plan₂
    → (s₁ ≡ s₂) × (n₁ ≡ n₂) × (a₁ ≡ a₂) × (b₁ ≡ b₂) × (c₁ ≡ c₂) × (vs₁ ≡ vs₂) × (rows₁ ≡ rows₂) × (plan₁ ≡ plan₂)
run_one_answer g rows plan t vs budget s₁ n₁ a₁ b₁ c₁ s₂ n₂ a₂ b₂ c₂ vs₁ rows₁ plan₁ vs₂ rows₂ plan₂ v w = (
  v.status ∙ sym w.status,
  v.count ∙ sym w.count,
  v.number ∙ sym w.number,
  v.place ∙ sym w.place,
  v.second ∙ sym w.second,
  v.values_are ∙ sym w.values_are,
  v.rows_are ∙ sym w.rows_are,
  v.plan_is ∙ sym w.plan_is,
)
