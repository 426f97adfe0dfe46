-- A run with a budget of at least the total is done with the total; a run with less stops with its budget.
-- What it leaves is the machine after that many actions. Assumes nothing.
use Prim.Native.Nat.{ℕ, zero, suc, ◌+◌, ◌≤◌, ◌<◌}
use mathlib.Core.Path.{◌≡◌, ◌∙◌, ap, subst⁻¹}
use mathlib.Core.Logic.{⊎_elim}
use mathlib.Core.Bool.{Bool, true, false}
use mathlib.Core.List.{List, [], ◌∷◌}
use native.Mathlib.Omega.{arith}
use lib.IntN.{ℤ}
use Rattle.basics.proofs.TestLaws.{below_or_not}
use Rattle.runs.specs.declared.Ran as R
use Rattle.runs.specs.Automaton.{Machine, started, step, after}
use Rattle.runs.specs.Totals.{total}
use Rattle.runs.specs.Run.{Ended, idle, last_answer, run_on, ran}
use Rattle.runs.specs.Balance.{RunGiven}
use Rattle.runs.proofs.StepsCounted.{busy, empty_after}

-- a run that is done, and one that is stopped
done : ℕ → Machine → Ended
done n m = record { answer = R.TheVariants.Done n; machine = m }

stopped : ℕ → Machine → Ended
stopped n m = record { answer = R.TheVariants.Stopped n; machine = m }

module _ (g p t : List ℕ) where
  -- one turn of the run, by whether a node is on the stack
  idle_turn : (budget k : ℕ) (m : Machine) → m.stack ≡ [] → run_on g p t (suc budget) k m ≡ done k m
  unfolding run_on idle done
  idle_turn budget k m e = go (idle m.stack) (ap idle e)
    where
      go : (b : Bool) → b ≡ true
          → ◌≡◌ {A = Ended} (elim b [ true ↦ done k m | false ↦ run_on g p t budget (suc k) (step g p t m) ]) (done k m)
      go b e = ap (λ (b : Bool). elim b as (λ b. Ended) [ true ↦ done k m | false ↦ run_on g p t budget (suc k) (step g p t m) ]) e

  busy_turn : (budget k : ℕ) (m : Machine) (n : ℕ) (rest : List ℕ) → m.stack ≡ n ∷ rest
      → run_on g p t (suc budget) k m ≡ run_on g p t budget (suc k) (step g p t m)
  unfolding run_on idle done
  busy_turn budget k m n rest e =
      ap (λ (s : List ℕ). elim (idle s) as (λ b. Ended) [ true ↦ done k m | false ↦ run_on g p t budget (suc k) (step g p t m) ]) e

  idle_last : (k : ℕ) (m : Machine) → m.stack ≡ [] → run_on g p t zero k m ≡ done k m
  unfolding run_on idle last_answer done
  idle_last k m e = ap (λ (s : List ℕ). record { answer = last_answer (idle s) k; machine = m }) e

  busy_last : (k : ℕ) (m : Machine) (n : ℕ) (rest : List ℕ) → m.stack ≡ n ∷ rest → run_on g p t zero k m ≡ stopped k m
  unfolding run_on idle last_answer stopped
  busy_last k m n rest e = ap (λ (s : List ℕ). record { answer = last_answer (idle s) k; machine = m }) e

module _ {g p t : List ℕ} {l : ℕ} (given : RunGiven g p t l) (values : List ℤ) where
  at : ℕ → Machine
  at k = after g p t k (started t values)

  stops : (budget k n : ℕ) → k + budget ≡ n → n < total p t → run_on g p t budget k (at k) ≡ stopped n (at n)
  unfolding at after
  stops zero k n e h =
      let w = busy given values k (omega arith) in
      let i : k ≡ n = omega arith in
      busy_last g p t k (at k) w.0 w.1 w.2 ∙ ap (λ (j : ℕ). stopped j (at j)) i
  stops (suc budget) k n e h =
      let w = busy given values k (omega arith) in
      busy_turn g p t budget k (at k) w.0 w.1 w.2 ∙ stops budget (suc k) n (omega arith) h

  ends : (budget k : ℕ) → k ≤ total p t → total p t ≤ k + budget → run_on g p t budget k (at k) ≡ done (total p t) (at (total p t))
  unfolding at after
  ends zero k h l =
      let i : k ≡ total p t = omega arith in
      idle_last g p t k (at k) (subst⁻¹ (λ (j : ℕ). (at j).stack ≡ []) i (empty_after given values))
      ∙ ap (λ (j : ℕ). done j (at j)) i
  ends (suc budget) k h l =
      ⊎_elim
      (λ s.
      let w = busy given values k s in
      busy_turn g p t budget k (at k) w.0 w.1 w.2 ∙ ends budget (suc k) s (omega arith))
      (λ s.
      let i : k ≡ total p t = omega arith in
      idle_turn g p t budget k (at k) (subst⁻¹ (λ (j : ℕ). (at j).stack ≡ []) i (empty_after given values))
      ∙ ap (λ (j : ℕ). done j (at j)) i)
      (below_or_not k (total p t))

  -- with a budget of the total or more the run is done
  pub ran_done : (budget : ℕ) → total p t ≤ budget
      → ran g p t values budget ≡ record { answer = R.TheVariants.Done (total p t); machine = after g p t (total p t) (started t values) }
  unfolding ran at after done
  ran_done budget h = ends budget 0 (omega arith) (omega arith)

  -- with less it stops
  pub ran_stopped : (budget : ℕ) → budget < total p t
      → ran g p t values budget ≡ record { answer = R.TheVariants.Stopped budget; machine = after g p t budget (started t values) }
  unfolding ran at after stopped
  ran_stopped budget h = stops budget 0 budget (omega arith) h
