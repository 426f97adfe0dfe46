-- A node's place moves only while the node is on top, and then by one. So each place of each node is at hand at exactly one moment of the run.
-- Assumes nothing.
use Prim.Native.Nat.{ℕ, zero, suc, ◌+◌, ◌-◌, ◌≤◌, ◌<◌}
use mathlib.Core.Path.{◌≡◌, refl, sym, ◌∙◌, ap, subst}
use mathlib.Core.Logic.{⊎_elim}
use mathlib.Core.List.{List, [], ◌∷◌}
use native.Mathlib.Omega.{arith}
use lib.Dec.{T}
use lib.IntN.{ℤ}
use lib.ListN.{length, set}
use lib.Seq.{get_or-set_same, get_or-set_other}
use Rattle.basics.specs.Lists.{word}
use Rattle.basics.proofs.TestLaws.{same_or_not, below_or_not, below_suc}
use Rattle.trees.specs.Tree.{nodes, rule_of, applies_rule}
use Rattle.plans.specs.Sequences.{sequence_length}
use Rattle.runs.specs.Automaton.{Machine, started, action_of, step_on, step, after}
use Rattle.runs.specs.Totals.{total}
use Rattle.runs.specs.Balance.{RunGiven, Balanced}
use Rattle.runs.specs.Computing.{machine_at, OnTop}
use Rattle.runs.proofs.Steps.{all_zero, step_on_law, act_places, top_inside}
use Rattle.runs.proofs.BalanceKept.{after_balanced}
use Rattle.runs.proofs.StepsCounted.{all_at_end, empty_after}

-- a machine with an empty stack stays as it is
pub empty_stays : (g p t : List ℕ) (m : Machine) → m.stack ≡ [] → step g p t m ≡ m
unfolding step step_on
empty_stays g p t m e =
    ap (λ (s : List ℕ). step_on g p t s m.places m.values) e
    ∙ ap (λ (s : List ℕ). record { stack = s; places = m.places; values = m.values }) (sym e)

module _ {g p t : List ℕ} {l : ℕ} (given : RunGiven g p t l) (values : List ℤ) where
  place_at : ℕ → ℕ → ℕ
  place_at k n = word (machine_at g p t values k).places n

  -- how the place of node m moves in one action
  data Moved (k m : ℕ) : Type 0 where
    on_top : OnTop g p t values k m (place_at k m) → place_at (suc k) m ≡ suc (place_at k m) → Moved k m
    stays : place_at (suc k) m ≡ place_at k m → Moved k m

  places_after : (k n : ℕ) (rest : List ℕ) → (machine_at g p t values k).stack ≡ n ∷ rest
      → (machine_at g p t values (suc k)).places ≡ set (machine_at g p t values k).places n (suc (place_at k n))
  unfolding after place_at
  places_after k n rest e =
      let m : Machine = machine_at g p t values k in
      ap (λ (q : Machine). q.places) (step_on_law g p t m n rest (action_of p t m.places n) e refl)
      ∙ act_places g t (action_of p t m.places n) n rest (set m.places n (suc (word m.places n))) m.values

  top_places : (k n : ℕ) (rest : List ℕ) → (machine_at g p t values k).stack ≡ n ∷ rest → n < length (machine_at g p t values k).places
  top_places k n rest e =
      let b : Balanced g p t (machine_at g p t values k).stack (machine_at g p t values k).places = after_balanced given values k in
      let i : n < nodes t = top_inside given n rest
      (subst (λ (s : List ℕ). Balanced g p t s (machine_at g p t values k).places) e b).path in
      omega (arith, b.places_length)

  moves : (k m : ℕ) → Moved k m
  unfolding place_at after
  moves k m = go (machine_at g p t values k).stack refl
    where
      go : (s : List ℕ) → (machine_at g p t values k).stack ≡ s → Moved k m
      go [] e = stays (ap (λ (q : Machine). word q.places m) (empty_stays g p t (machine_at g p t values k) e))
      go (n ∷ rest) e =
          ⊎_elim
          (λ i.
          on_top (record { rest = rest; stack_is = e ∙ ap (λ (x : ℕ). x ∷ rest) (sym i); place_is = refl })
          (ap (λ (q : List ℕ). word q m) (places_after k n rest e)
          ∙ (ap (λ (x : ℕ). word (set (machine_at g p t values k).places n (suc (place_at k n))) x) i
          ∙ (get_or-set_same (machine_at g p t values k).places n (suc (place_at k n)) 0 (top_places k n rest e)
          ∙ ap (λ (x : ℕ). suc (place_at k x)) (sym i)))))
          (λ d.
          stays (ap (λ (q : List ℕ). word q m) (places_after k n rest e)
          ∙ get_or-set_other (machine_at g p t values k).places n m (suc (place_at k n)) 0 d))
          (same_or_not m n)

  -- the node on top goes on by one place
  pub top_moves : (k n j : ℕ) → OnTop g p t values k n j → word (machine_at g p t values (suc k)).places n ≡ suc j
  unfolding place_at
  top_moves k n j w =
      ap (λ (q : List ℕ). word q n) (places_after k n w.rest w.stack_is)
      ∙ (get_or-set_same (machine_at g p t values k).places n (suc (place_at k n)) 0 (top_places k n w.rest w.stack_is)
      ∙ ap suc w.place_is)

  moved_on : (k m : ℕ) → place_at k m ≤ place_at (suc k) m
  moved_on k m = go (moves k m)
    where
      go : Moved k m → place_at k m ≤ place_at (suc k) m
      go (on_top w e) = omega arith
      go (stays e) = omega arith

  -- places never go back
  places_rise : (i k m : ℕ) → i ≤ k → place_at i m ≤ place_at k m
  places_rise i zero m h = let e : i ≡ 0 = omega arith in omega (arith, ap (λ (j : ℕ). place_at j m) e)
  places_rise i (suc k) m h =
      ⊎_elim (λ s. omega (arith, places_rise i k m (omega arith), moved_on k m))
      (λ e. omega (arith, ap (λ (j : ℕ). place_at j m) e)) (below_suc i (suc k) (omega arith))

  first_place : (m : ℕ) → place_at 0 m ≡ 0
  unfolding place_at after started
  first_place m = all_zero (nodes t) m

  -- a place that node m has passed was at hand earlier
  pub earlier : (k m j : ℕ) → j < word (machine_at g p t values k).places m → (i : ℕ) × (i < k) × OnTop g p t values i m j
  unfolding place_at
  earlier zero m j h = absurd (omega (arith, first_place m))
  earlier (suc k) m j h =
      ⊎_elim (λ s. let w = earlier k m j s in (w.0, omega (arith, w.1), w.2)) (λ s. go (moves k m) s) (below_or_not j (place_at k m))
    where
      go : Moved k m → place_at k m ≤ j → (i : ℕ) × (i < suc k) × OnTop g p t values i m j
      go (on_top w e) s = (k, omega arith, record { rest = w.rest; stack_is = w.stack_is; place_is = omega arith })
      go (stays e) s = absurd (omega arith)

  -- each place of each node is at hand at some moment
  pub moment : (m j : ℕ) → m < nodes t → T (applies_rule t m) → j < sequence_length p (rule_of t m)
      → (k : ℕ) × (k < total p t) × OnTop g p t values k m j
  moment m j h a s = earlier (total p t) m j (omega (arith, all_at_end given values m h a))

  -- and at one only
  pub one_moment : (k i m j : ℕ) → OnTop g p t values k m j → OnTop g p t values i m j → k ≡ i
  one_moment k i m j v w =
      ⊎_elim (λ s. absurd (not_later k i s v w)) (λ s. ⊎_elim (λ r. absurd (not_later i k r w v)) (λ r. omega arith) (below_or_not i k))
      (below_or_not k i)
    where
      not_later : (k i : ℕ) → k < i → OnTop g p t values k m j → OnTop g p t values i m j → ⊥
      not_later k i s v w = unfold place_at in omega (arith, top_moves k m j v, places_rise (suc k) i m s, w.place_is)

  -- after the total nothing is on top
  pub idle_after : (d : ℕ) → (machine_at g p t values (total p t + d)).stack ≡ []
  unfolding after
  idle_after zero = let e : total p t + 0 ≡ total p t = omega arith in rw e (empty_after given values)
  idle_after (suc d) =
      let e : total p t + suc d ≡ suc (total p t + d) = omega arith in
      ap (λ (k : ℕ). (machine_at g p t values k).stack) e
      ∙ (ap (λ (q : Machine). q.stack) (empty_stays g p t (machine_at g p t values (total p t + d)) (idle_after d)) ∙ idle_after d)

  -- so what is at hand is at hand before the total
  pub before_total : (k n : ℕ) (rest : List ℕ) → (machine_at g p t values k).stack ≡ n ∷ rest → k < total p t
  before_total k n rest e =
      ⊎_elim (λ s. s)
      (λ s.
      let d : total p t + (k - total p t) ≡ k = omega arith in
      absurd (let z : ◌≡◌ {A = ℕ} 0 1 =
      cc (ap (λ (i : ℕ). (machine_at g p t values i).stack) d, idle_after (k - total p t)) in
      omega arith))
      (below_or_not k (total p t))
