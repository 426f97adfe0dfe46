-- For every input there is one answer and one content of both buffers that meet the contract of `plan`, and only one.
-- Assumes nothing.
use mathlib.Core.Path.{◌≡◌, refl, sym, ◌∙◌}
use mathlib.Core.List.{List}
use Prim.Native.Nat.{ℕ}
use lib.ListN.{length}
use Rattle.std.specs.Prelude.{Result}
use Rattle.refusals.specs.declared.Refusal.{Refusal}
use Rattle.plans.specs.Answer.{Outcome, outcome, answer_of, rows_after, plan_after}
use Rattle.planner.specs.Answered.{Answered}

pub every_input : (g rows plan : List ℕ) → (answer : Result ℕ Refusal) × (rows' : List ℕ) × (plan' : List ℕ) × Answered g rows plan answer rows' plan'
every_input g rows plan =
    let o : Outcome = outcome g (length rows) (length plan) in
    (answer_of g o, rows_after g o rows, plan_after g o plan, record { answers = refl; rows_are = refl; plan_is = refl })

pub one_answer : (g rows plan : List ℕ) (a b : Result ℕ Refusal) (rows₁ plan₁ rows₂ plan₂ : List ℕ) → Answered g rows plan a rows₁ plan₁
    → Answered g rows plan b rows₂ plan₂ → (a ≡ b) × (rows₁ ≡ rows₂) × (plan₁ ≡ plan₂)
one_answer g rows plan a b rows₁ plan₁ rows₂ plan₂ v w =
    (v.answers ∙ sym w.answers, v.rows_are ∙ sym w.rows_are, v.plan_is ∙ sym w.plan_is)
