-- Document 01, "Refusal numbers", the whole table: what a run may refuse, 1 to 18, by the words of the table and the tree and by the
-- lengths of the lent buffers. Assumes nothing.
use Rattle.std.specs.Prelude.{ℕ, List}
use Rattle.refusals.specs.declared.Refusal.{Refusal}
use Rattle.cases.specs.First.{FirstCase}
use Rattle.cases.specs.PlanningCases.{PlanCase}
use Rattle.cases.specs.TreeCases.{TreeCase}

pub data RunCase (g : List ℕ) (rows_length plan_length : ℕ) (t : List ℕ) (values_length : ℕ) (n : Refusal) : Type 1 where
  in_plan : PlanCase g rows_length plan_length n → RunCase g rows_length plan_length t values_length n
  in_tree : TreeCase g t values_length n → RunCase g rows_length plan_length t values_length n

-- planning refuses with n: n is the first of the cases 1 to 10 that applies
abbrev pub PlanRefuses : List ℕ → ℕ → ℕ → Refusal → Type 1
PlanRefuses g rows_length plan_length n = FirstCase g (PlanCase g rows_length plan_length) n

-- a run refuses with n: n is the first of the cases 1 to 18 that applies
abbrev pub Refuses : List ℕ → ℕ → ℕ → List ℕ → ℕ → Refusal → Type 1
Refuses g rows_length plan_length t values_length n = FirstCase g (RunCase g rows_length plan_length t values_length) n
