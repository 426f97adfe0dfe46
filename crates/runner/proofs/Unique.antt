-- For every input there is one answer and one content of values, rows and plan that meet the contract of `run`, and only one.
-- Assumes nothing.
use mathlib.Core.Path.{◌≡◌, refl, sym, ◌∙◌}
use mathlib.Core.List.{List}
use Prim.Native.Nat.{ℕ}
use lib.IntN.{ℤ}
use Rattle.plans.specs.Answer.{rows_after, plan_after}
use Rattle.std.specs.Prelude.{Result}
use Rattle.refusals.specs.declared.Refusal.{Refusal}
use Rattle.runs.specs.declared.Report.{Report}
use Rattle.runner.specs.Whole.{came, answer, values}
use Rattle.runner.specs.Answered.{Answered}

pub every_input : (g rows plan t : List ℕ) (vs : List ℤ) (budget : ℕ)
    → (answer : Result Report Refusal) × (vs' : List ℤ) × (rows' : List ℕ) × (plan' : List ℕ) × Answered g rows plan t vs budget answer vs' rows' plan'
every_input g rows plan t vs budget = (
  answer g rows plan t vs budget,
  values g rows plan t vs budget,
  rows_after g (came g rows plan) rows,
  plan_after g (came g rows plan) plan,
  record { answers = refl; values_are = refl; rows_are = refl; plan_is = refl },
)

pub one_answer : (g rows plan t : List ℕ) (vs : List ℤ) (budget : ℕ) (a b : Result Report Refusal) (vs₁ : List ℤ) (rows₁ plan₁ : List ℕ) (vs₂ : List ℤ)
    (rows₂ plan₂ : List ℕ) → Answered g rows plan t vs budget a vs₁ rows₁ plan₁ → Answered g rows plan t vs budget b vs₂ rows₂ plan₂
    → (a ≡ b) × (vs₁ ≡ vs₂) × (rows₁ ≡ rows₂) × (plan₁ ≡ plan₂)
one_answer g rows plan t vs budget a b vs₁ rows₁ plan₁ vs₂ rows₂ plan₂ v w =
    (v.answers ∙ sym w.answers, v.values_are ∙ sym w.values_are, v.rows_are ∙ sym w.rows_are, v.plan_is ∙ sym w.plan_is)
