-- A whole run: planning, then the check of the tree. It answers refusal n exactly if n is the first of all cases that applies, and a
-- run that it carries out is never answered with a refusal. Assumes nothing.
use Prim.Native.Nat.{ℕ}
use mathlib.Core.Path.{◌≡◌, refl}
use mathlib.Core.Logic.Iff
use mathlib.Core.Logic.{◌⊎◌, inl, inr, ◌↔◌}
use mathlib.Core.Bool.{Bool, true, false}
use mathlib.Core.List.{List}
use native.Mathlib.Omega.{arith}
use lib.IntN.{ℤ}
use lib.ListN.{length}
use Rattle.std.specs.Prelude.{Ok, Err}
use Rattle.refusals.specs.declared.Refusal.{Refusal}
use Rattle.grammar.specs.Verdicts.{Verdict, Good, Refused, ◌then◌}
use Rattle.grammar.specs.Reading.{read_table}
use Rattle.grammar.proofs.AcceptedTable.{accepted}
use Rattle.plans.specs.Answer.{Outcome, untouched, circular_idp, unordered, accepted as accepts, outcome}
use Rattle.trees.specs.Checking.{check_tree}
use Rattle.runs.specs.declared.Ran.{Ran}
use Rattle.runs.specs.Run.{reported, ran, run_answer}
use Rattle.runner.specs.Whole.{came, left_plan, answer}
use Rattle.cases.specs.First.{GoesBy}
use Rattle.cases.specs.PlanningCases.{PlanCase, in_table}
use Rattle.cases.specs.TreeCases.{TreeCase}
use Rattle.cases.specs.AllCases.{RunCase, in_plan, in_tree, Refuses}
use Rattle.cases.proofs.FirstLaws.{good_not_refused, goes_then}
use Rattle.cases.proofs.TableTests.{table_verdict}
use Rattle.cases.proofs.PlanningFirst.{verdict_of}
use Rattle.cases.proofs.PlanTests.{plan_walk, plan_verdict}
use Rattle.cases.proofs.TreeKeys.{tree_place}
use Rattle.cases.proofs.TreeTests.{tree_verdict}

-- a run that is carried out answers no refusal
pub not_refused : (r : Ran) (n : Refusal) → reported r ≡ Err n → ⊥
not_refused r n e = let z : ◌≡◌ {A = ℕ} 0 1 = cc in omega arith

-- what a run answers is a refusal exactly if planning or the check ends in it
run_refusal : (g p t : List ℕ) (o : Outcome) (v : Verdict) (values : List ℤ) (budget : ℕ) (n : Refusal)
    → (run_answer g p t o v values budget ≡ Err n) ↔ (verdict_of o then v ≡ Refused n)
unfolding run_answer verdict_of ◌then◌ ran
run_refusal g p t (untouched k) v values budget n = (λ e. cc, λ e. cc)
run_refusal g p t (circular_idp k) v values budget n = (λ e. cc, λ e. cc)
run_refusal g p t (unordered k) v values budget n = (λ e. cc, λ e. cc)
run_refusal g p t accepts (Ok _) values budget n =
    (λ e. absurd (not_refused (ran g p t values budget).answer n e), λ e. absurd (good_not_refused n e))
run_refusal g p t accepts (Err k) values budget n = (λ e. cc, λ e. cc)

module _ (g : List ℕ) (rows_length plan_length : ℕ) (t : List ℕ) (values_length : ℕ) where
  either : (n : Refusal) → RunCase g rows_length plan_length t values_length n
      → PlanCase g rows_length plan_length n ⊎ TreeCase g t values_length n
  either n (in_plan c) = inl c
  either n (in_tree c) = inr c

  -- a plan comes only of a table that is read
  planned_good : verdict_of (outcome g rows_length plan_length) ≡ Good → read_table g ≡ Good
  planned_good e = (table_verdict g).good.1 (λ n c. (plan_verdict g rows_length plan_length).good.0 e n (in_table c))

  -- The verdict on all that a run is lent: good exactly if no case of 1 to 18 applies, and refusal n exactly if n is the first.
  pub run_verdict : GoesBy g (RunCase g rows_length plan_length t values_length)
      (verdict_of (outcome g rows_length plan_length) then check_tree g t values_length)
  run_verdict =
      goes_then g (PlanCase g rows_length plan_length) (TreeCase g t values_length) (RunCase g rows_length plan_length t values_length)
      (λ n c. in_plan c) (λ n c. in_tree c) either (λ m n c d. omega (arith, plan_walk g rows_length plan_length m c, (tree_place g t values_length n d).late))
      (verdict_of (outcome g rows_length plan_length)) (check_tree g t values_length) (plan_verdict g rows_length plan_length)
      (λ e. tree_verdict g t values_length (accepted g (planned_good e)))

module _ (g rows plan t : List ℕ) (values : List ℤ) (budget : ℕ) where
  answer_verdict : (n : Refusal)
      → (answer g rows plan t values budget ≡ Err n)
      ↔ (verdict_of (outcome g (length rows) (length plan)) then check_tree g t (length values) ≡ Refused n)
  unfolding answer came
  answer_verdict n =
      run_refusal g (left_plan g rows plan) t (came g rows plan) (check_tree g t (length values)) values budget n

  -- a run answers refusal n exactly if n is the first of the cases 1 to 18 that applies
  pub run_refused : (n : Refusal)
      → (answer g rows plan t values budget ≡ Err n) ↔ Refuses g (length rows) (length plan) t (length values) n
  run_refused n = Iff.trans (answer_verdict n) ((run_verdict g (length rows) (length plan) t (length values)).refused n)

  -- and is carried out exactly if none applies
  pub run_carried_out : ((n : Refusal) → ¬ (answer g rows plan t values budget ≡ Err n))
      ↔ ((n : Refusal) → ¬ RunCase g (length rows) (length plan) t (length values) n)
  run_carried_out = (
    λ h. (run_verdict g (length rows) (length plan) t (length values)).good.0 (is_good _ (λ n e. h n ((answer_verdict n).1 e))),
    λ h n e. h n ((run_refused n).0 e).applies,
  )
    where
      is_good : (v : Verdict) → ((n : Refusal) → ¬ (v ≡ Refused n)) → v ≡ Good
      is_good (Ok _) h = refl
      is_good (Err n) h = absurd (h n refl)
