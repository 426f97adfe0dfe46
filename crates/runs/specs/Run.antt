-- Document 01: a run with a budget, and what it answers and leaves in the lent buffers for every input.
-- Computed: no demand rests on it. Assumes nothing.
use Rattle.std.specs.Prelude.{ℕ, zero, suc, Bool, true, false, List, [], ◌∷◌, ℤ, Result, Ok, Err}
use Rattle.refusals.specs.declared.Refusal.{Refusal}
use Rattle.grammar.specs.Verdicts.{Verdict}
use Rattle.plans.specs.Answer.{Outcome, untouched, circular_idp, unordered, accepted}
use Rattle.runs.specs.declared.Ran as R
use Rattle.runs.specs.declared.Report.{Report}
use Rattle.runs.specs.Automaton.{Machine, started, step}

-- a run comes to its end, or its budget does
pub record Ended : Type 0 where
  pub answer : R.Ran
  pub machine : Machine

-- no node is on the stack
unfoldable pub idle : List ℕ → Bool
idle [] = true
idle (n ∷ rest) = false

-- the answer where the budget is at its end
unfoldable pub last_answer : Bool → ℕ → R.Ran
last_answer true count = R.TheVariants.Done count
last_answer false count = R.TheVariants.Stopped count

-- The machine runs while its stack holds a node and the budget lasts; the actions so far are counted.
unfoldable pub run_on : List ℕ → List ℕ → List ℕ → ℕ → ℕ → Machine → Ended
run_on g p t zero count m = record { answer = last_answer (idle m.stack) count; machine = m }
run_on g p t (suc budget) count m =
    elim (idle m.stack) [
      | true ↦ record { answer = R.TheVariants.Done count; machine = m }
      | false ↦ run_on g p t budget (suc count) (step g p t m)
    ]

-- the run of plan p over tree t: "done with its count of actions, or stopped with the budget"
unfoldable pub ran : List ℕ → List ℕ → List ℕ → List ℤ → ℕ → Ended
ran g p t values budget = run_on g p t budget 0 (started t values)

-- the answer of a run that is not refused
abbrev pub reported : R.Ran → Result Report Refusal
reported r = Ok (record { ran = r })

-- What a run answers and leaves in the values, where p is the plan as planning left it, planning came so far and the tree's verdict is this.
unfoldable pub run_answer : List ℕ → List ℕ → List ℕ → Outcome → Verdict → List ℤ → ℕ → Result Report Refusal
run_answer g p t (untouched n) v values budget = Err n
run_answer g p t (circular_idp n) v values budget = Err n
run_answer g p t (unordered n) v values budget = Err n
run_answer g p t accepted (Ok _) values budget = reported (ran g p t values budget).answer
run_answer g p t accepted (Err n) values budget = Err n

unfoldable pub values_after : List ℕ → List ℕ → List ℕ → Outcome → Verdict → List ℤ → ℕ → List ℤ
values_after g p t (untouched n) v values budget = values
values_after g p t (circular_idp n) v values budget = values
values_after g p t (unordered n) v values budget = values
values_after g p t accepted (Ok _) values budget = (ran g p t values budget).machine.values
values_after g p t accepted (Err n) values budget = values
