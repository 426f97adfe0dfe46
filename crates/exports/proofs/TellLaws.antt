-- What is told of an answer, from what `plan` or `run` promises of it: one law for each case.
-- Assumes nothing.
use mathlib.Core.Path.{◌≡◌, refl, ap, sym, ◌∙◌, subst}
use mathlib.Core.List.{List}
use Prim.Native.Nat.{ℕ}
use lib.IntN.{ℤ}
use Rattle.std.specs.Prelude.{Result, Ok, Err}
use Rattle.refusals.specs.declared.Refusal.{Refusal}
use Rattle.refusals.specs.Numbers.{number_of, place_of, second_of}
use Rattle.planner.specs.Answered as planner
use Rattle.runs.specs.declared.Ran as R
use Rattle.runs.specs.declared.Report.{Report}
use Rattle.runs.specs.Run.{reported}
use Rattle.runner.specs.Answered as runner
use Rattle.exports.specs.Told.{Told, counted, refused, plan_told, run_told, planning, running}
use Rattle.exports.specs.Answered.{PlanAnswered, RunAnswered}

-- the five numbers are those of t
record Tells (t : Told) (status' count' number' place' second' : ℕ) : Type 0 where
  status : status' ≡ t.status
  count : count' ≡ t.count
  number : number' ≡ t.number
  place : place' ≡ t.place
  second : second' ≡ t.second

tells_count : (t : Told) (s n : ℕ) → counted s n ≡ t → Tells t s n 0 0 0
tells_count t s n e =
    subst (λ (x : Told). Tells x s n 0 0 0) e (record { status = refl; count = refl; number = refl; place = refl; second = refl })

tells_refusal : (t : Told) (r : Refusal) (s a b c : ℕ) → refused r ≡ t → s ≡ 2 → a ≡ number_of r → b ≡ place_of r → c ≡ second_of r
    → Tells t s 0 a b c
tells_refusal t r s a b c e status number place second =
    subst (λ (x : Told). Tells x s 0 a b c) e (record { status = status; count = refl; number = number; place = place; second = second })

module _ (g rows plan : List ℕ) (planned : Result ℕ Refusal) (rows' plan' : List ℕ) (w : planner.Answered g rows plan planned rows' plan') where
  plan_told_law : (s n a b c : ℕ) → Tells (planning g rows plan) s n a b c → PlanAnswered g rows plan s n a b c rows' plan'
  plan_told_law s n a b c t =
      record {
        status = t.status;
        count = t.count;
        number = t.number;
        place = t.place;
        second = t.second;
        rows_are = w.rows_are;
        plan_is = w.plan_is;
      }

  pub plan_accepted : (n : ℕ) → planned ≡ Ok n → PlanAnswered g rows plan 0 n 0 0 0 rows' plan'
  plan_accepted n e = plan_told_law 0 n 0 0 0 (tells_count (planning g rows plan) 0 n (ap plan_told (sym e ∙ w.answers)))

  pub plan_refused : (r : Refusal) (s a b c : ℕ) → planned ≡ Err r → s ≡ 2 → a ≡ number_of r → b ≡ place_of r → c ≡ second_of r
      → PlanAnswered g rows plan s 0 a b c rows' plan'
  plan_refused r s a b c e status number place second =
      plan_told_law s 0 a b c (tells_refusal (planning g rows plan) r s a b c (ap plan_told (sym e ∙ w.answers)) status number place second)

module _ (g rows plan t : List ℕ) (vs : List ℤ) (budget : ℕ) (answered : Result Report Refusal) (vs' : List ℤ) (rows' plan' : List ℕ)
    (w : runner.Answered g rows plan t vs budget answered vs' rows' plan') where
  run_told_law : (s n a b c : ℕ) → Tells (running g rows plan t vs budget) s n a b c → RunAnswered g rows plan t vs budget s n a b c vs' rows' plan'
  run_told_law s n a b c t =
      record {
        status = t.status;
        count = t.count;
        number = t.number;
        place = t.place;
        second = t.second;
        values_are = w.values_are;
        rows_are = w.rows_are;
        plan_is = w.plan_is;
      }

  pub run_done : (n : ℕ) → answered ≡ reported (R.TheVariants.Done n) → RunAnswered g rows plan t vs budget 0 n 0 0 0 vs' rows' plan'
  run_done n e = run_told_law 0 n 0 0 0 (tells_count (running g rows plan t vs budget) 0 n (ap run_told (sym e ∙ w.answers)))

  pub run_stopped : (n : ℕ) → answered ≡ reported (R.TheVariants.Stopped n) → RunAnswered g rows plan t vs budget 1 n 0 0 0 vs' rows' plan'
  run_stopped n e = run_told_law 1 n 0 0 0 (tells_count (running g rows plan t vs budget) 1 n (ap run_told (sym e ∙ w.answers)))

  pub run_refused : (r : Refusal) (s a b c : ℕ) → answered ≡ Err r → s ≡ 2 → a ≡ number_of r → b ≡ place_of r → c ≡ second_of r
      → RunAnswered g rows plan t vs budget s 0 a b c vs' rows' plan'
  run_refused r s a b c e status number place second =
      run_told_law s 0 a b c
      (tells_refusal (running g rows plan t vs budget) r s a b c (ap run_told (sym e ∙ w.answers)) status number place second)
