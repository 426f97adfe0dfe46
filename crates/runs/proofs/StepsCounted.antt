-- The places add up to the number of actions so far, so the stack empties after exactly as many actions as the lengths add up to.
-- Assumes nothing.
use Prim.Native.Nat.{ℕ, zero, suc, ◌+◌, ◌≤◌, ◌<◌}
use mathlib.Core.Path.{◌≡◌, refl, sym, ◌∙◌, ap, subst}
use mathlib.Core.Logic.{⊎_elim}
use mathlib.Core.Bool.{Bool, true, false, cond}
use mathlib.Core.List.{List, [], ◌∷◌}
use native.Mathlib.Omega.{arith}
use lib.Dec.{T}
use lib.IntN.{ℤ}
use lib.ListN.{length, set, replicate}
use lib.Seq.{get_or-set_same, get_or-set_other}
use Rattle.basics.specs.Lists.{word}
use Rattle.basics.proofs.TestLaws.{below_suc, true_T}
use Rattle.trees.specs.Tree.{nodes, rule_of, applies_rule}
use Rattle.plans.specs.Sequences.{sequence_length}
use Rattle.runs.specs.Automaton.{Machine, started, action_of, step, after}
use Rattle.runs.specs.Totals.{total_up_to, total}
use Rattle.runs.specs.Balance.{RunGiven, Balanced}
use Rattle.runs.proofs.Steps.{all_zero, step_on_law, act_places, top_inside, top_applies}
use Rattle.runs.proofs.Balance.{top_left}
use Rattle.runs.proofs.BalanceKept.{after_balanced}
use Rattle.runs.proofs.EveryNodeEnds.{every_node_ends}

-- what the places of the first nodes that apply a rule add up to
walked : List ℕ → List ℕ → ℕ → ℕ
walked t places zero = 0
walked t places (suc n) = walked t places n + cond (applies_rule t n) (word places n) 0

-- where each place is at most its sequence's length the sum is at most the total, less where one is less, and equal where all are
walked_most : (p t places : List ℕ) (k : ℕ) → ((n : ℕ) → n < k → T (applies_rule t n) → word places n ≤ sequence_length p (rule_of t n))
    → walked t places k ≤ total_up_to (λ r. sequence_length p r) t k
unfolding walked total_up_to
walked_most p t places zero f = omega arith
walked_most p t places (suc k) f = go (applies_rule t k) refl (walked_most p t places k (λ n h. f n (omega arith)))
  where
    go : (b : Bool) → applies_rule t k ≡ b → walked t places k ≤ total_up_to (λ r. sequence_length p r) t k
        → walked t places k + cond b (word places k) 0 ≤ total_up_to (λ r. sequence_length p r) t k + cond b (sequence_length p (rule_of t k)) 0
    go true e h = omega (arith, f k (omega arith) (true_T _ e))
    go false e h = omega arith

walked_less : (p t places : List ℕ) (k : ℕ) → ((n : ℕ) → n < k → T (applies_rule t n) → word places n ≤ sequence_length p (rule_of t n))
    → (m : ℕ) → m < k → T (applies_rule t m) → word places m < sequence_length p (rule_of t m) → walked t places k < total_up_to (λ r. sequence_length p r) t k
unfolding walked total_up_to
walked_less p t places zero f m h a l = absurd (omega arith)
walked_less p t places (suc k) f m h a l =
    ⊎_elim (λ s. go (applies_rule t k) refl (walked_less p t places k (λ n i. f n (omega arith)) m s a l))
    (λ s.
    here (applies_rule t k) (subst (λ (n : ℕ). T (applies_rule t n)) s a)
    (subst (λ (n : ℕ). word places n < sequence_length p (rule_of t n)) s l) (walked_most p t places k (λ n i. f n (omega arith))))
    (below_suc m k h)
  where
    go : (b : Bool) → applies_rule t k ≡ b → walked t places k < total_up_to (λ r. sequence_length p r) t k
        → walked t places k + cond b (word places k) 0 < total_up_to (λ r. sequence_length p r) t k + cond b (sequence_length p (rule_of t k)) 0
    go true e h = omega (arith, f k (omega arith) (true_T _ e))
    go false e h = omega arith

    here : (b : Bool) → T b → word places k < sequence_length p (rule_of t k) → walked t places k ≤ total_up_to (λ r. sequence_length p r) t k
        → walked t places k + cond b (word places k) 0 < total_up_to (λ r. sequence_length p r) t k + cond b (sequence_length p (rule_of t k)) 0
    here true e l h = omega arith
    here false e l h = absurd e

walked_all : (p t places : List ℕ) (k : ℕ) → ((n : ℕ) → n < k → T (applies_rule t n) → word places n ≡ sequence_length p (rule_of t n))
    → walked t places k ≡ total_up_to (λ r. sequence_length p r) t k
unfolding walked total_up_to
walked_all p t places zero f = refl
walked_all p t places (suc k) f = go (applies_rule t k) refl (walked_all p t places k (λ n h. f n (omega arith)))
  where
    go : (b : Bool) → applies_rule t k ≡ b → walked t places k ≡ total_up_to (λ r. sequence_length p r) t k
        → walked t places k + cond b (word places k) 0 ≡ total_up_to (λ r. sequence_length p r) t k + cond b (sequence_length p (rule_of t k)) 0
    go true e h = omega (arith, f k (omega arith) (true_T _ e))
    go false e h = omega arith

-- a node that goes on by one place adds one to the sum
walked_beyond : (t places : List ℕ) (m v k : ℕ) → k ≤ m → walked t (set places m v) k ≡ walked t places k
unfolding walked
walked_beyond t places m v zero h = refl
walked_beyond t places m v (suc k) h =
    go (applies_rule t k) (walked_beyond t places m v k (omega arith)) (get_or-set_other places m k v 0 (λ e. omega arith))
  where
    go : (b : Bool) → walked t (set places m v) k ≡ walked t places k → word (set places m v) k ≡ word places k
        → walked t (set places m v) k + cond b (word (set places m v) k) 0 ≡ walked t places k + cond b (word places k) 0
    go true d e = omega arith
    go false d e = omega arith

walked_on : (t places : List ℕ) (m k : ℕ) → m < k → m < length places → T (applies_rule t m)
    → walked t (set places m (suc (word places m))) k ≡ suc (walked t places k)
unfolding walked
walked_on t places m zero h l a = absurd (omega arith)
walked_on t places m (suc k) h l a =
    ⊎_elim
    (λ s. go (applies_rule t k) (walked_on t places m k s l a) (get_or-set_other places m k (suc (word places m)) 0 (λ e. omega arith)))
    (λ s.
    here (applies_rule t k) (subst (λ (n : ℕ). T (applies_rule t n)) s a)
    (walked_beyond t places m (suc (word places m)) k (omega arith))
    (ap (λ (x : ℕ). word (set places m (suc (word places m))) x) (sym s)
    ∙ (get_or-set_same places m (suc (word places m)) 0 l ∙ ap (λ (x : ℕ). suc (word places x)) s)))
    (below_suc m k h)
  where
    after' : List ℕ
    after' = set places m (suc (word places m))

    go : (b : Bool) → walked t after' k ≡ suc (walked t places k) → word after' k ≡ word places k
        → walked t after' k + cond b (word after' k) 0 ≡ suc (walked t places k + cond b (word places k) 0)
    go true d e = omega arith
    go false d e = omega arith

    here : (b : Bool) → T b → walked t after' k ≡ walked t places k → word after' k ≡ suc (word places k)
        → walked t after' k + cond b (word after' k) 0 ≡ suc (walked t places k + cond b (word places k) 0)
    here true i d e = omega arith
    here false i d e = absurd i

module _ {g p t : List ℕ} {l : ℕ} (given : RunGiven g p t l) (values : List ℤ) where
  at : ℕ → Machine
  at k = after g p t k (started t values)

  step_walked : (m : Machine) → Balanced g p t m.stack m.places → (n : ℕ) (rest : List ℕ) → m.stack ≡ n ∷ rest
      → walked t (step g p t m).places (nodes t) ≡ suc (walked t m.places (nodes t))
  step_walked m b n rest e =
      let b' : Balanced g p t (n ∷ rest) m.places = subst (λ (s : List ℕ). Balanced g p t s m.places) e b in
      let inside : n < nodes t = top_inside given n rest b'.path in
      ap (λ (q : Machine). walked t q.places (nodes t)) (step_on_law g p t m n rest (action_of p t m.places n) e refl)
      ∙ (ap (λ (s : List ℕ). walked t s (nodes t))
      (act_places g t (action_of p t m.places n) n rest (set m.places n (suc (word m.places n))) m.values)
      ∙ walked_on t m.places n (nodes t) inside (omega (arith, b.places_length)) (top_applies given n rest b'.path))

  -- with an empty stack the sum is the total, with a node on top it is less
  empty_total : (m : Machine) → Balanced g p t m.stack m.places → m.stack ≡ [] → walked t m.places (nodes t) ≡ total p t
  unfolding total
  empty_total m b e =
      walked_all p t m.places (nodes t) (every_node_ends given (subst (λ (s : List ℕ). Balanced g p t s m.places) e b))

  top_total : (m : Machine) → Balanced g p t m.stack m.places → (n : ℕ) (rest : List ℕ) → m.stack ≡ n ∷ rest
      → walked t m.places (nodes t) < total p t
  unfolding total
  top_total m b n rest e =
      let b' : Balanced g p t (n ∷ rest) m.places = subst (λ (s : List ℕ). Balanced g p t s m.places) e b in
      walked_less p t m.places (nodes t) b'.inside n (top_inside given n rest b'.path) (top_applies given n rest b'.path)
      (top_left given n rest m.places b')

  none_walked : (k : ℕ) → walked t (started t values).places k ≡ 0
  unfolding walked started
  none_walked zero = refl
  none_walked (suc k) = go (applies_rule t k) (none_walked k) (all_zero (nodes t) k)
    where
      go : (b : Bool) → walked t (replicate (nodes t) 0) k ≡ 0 → word (replicate (nodes t) 0) k ≡ 0
          → walked t (replicate (nodes t) 0) k + cond b (word (replicate (nodes t) 0) k) 0 ≡ 0
      go true d e = omega arith
      go false d e = omega arith

  -- the places add up to the actions so far
  steps_counted : (k : ℕ) → k ≤ total p t → walked t (at k).places (nodes t) ≡ k
  unfolding at after
  steps_counted zero h = none_walked (nodes t)
  steps_counted (suc k) h = go (at k).stack refl (steps_counted k (omega arith))
    where
      go : (s : List ℕ) → (at k).stack ≡ s → walked t (at k).places (nodes t) ≡ k → walked t (step g p t (at k)).places (nodes t) ≡ suc k
      go [] e c = absurd (omega (arith, empty_total (at k) (after_balanced given values k) e))
      go (n ∷ rest) e c = step_walked (at k) (after_balanced given values k) n rest e ∙ ap suc c

  -- before the total a node is on top
  pub busy : (k : ℕ) → k < total p t → (n : ℕ) × (rest : List ℕ) × ((after g p t k (started t values)).stack ≡ n ∷ rest)
  unfolding at
  busy k h = go (at k).stack refl
    where
      go : (s : List ℕ) → (at k).stack ≡ s → (n : ℕ) × (rest : List ℕ) × ((at k).stack ≡ n ∷ rest)
      go [] e = absurd (omega (arith, empty_total (at k) (after_balanced given values k) e, steps_counted k (omega arith)))
      go (n ∷ rest) e = (n, rest, e)

  -- and a node is on top only before the total
  pub busy_before : (k n : ℕ) (rest : List ℕ) → k ≤ total p t → (after g p t k (started t values)).stack ≡ n ∷ rest → k < total p t
  unfolding at
  busy_before k n rest h e = omega (arith, top_total (at k) (after_balanced given values k) n rest e, steps_counted k h)

  -- after the total the stack is empty
  pub empty_after : (after g p t (total p t) (started t values)).stack ≡ []
  unfolding at
  empty_after = go (at (total p t)).stack refl
    where
      go : (s : List ℕ) → (at (total p t)).stack ≡ s → (at (total p t)).stack ≡ []
      go [] e = e
      go (n ∷ rest) e = absurd (omega (arith, busy_before (total p t) n rest (omega arith) e))

  -- and every node is at its end
  pub all_at_end : (n : ℕ) → n < nodes t → T (applies_rule t n)
      → word (after g p t (total p t) (started t values)).places n ≡ sequence_length p (rule_of t n)
  all_at_end =
      every_node_ends given
      (subst (λ (s : List ℕ). Balanced g p t s (after g p t (total p t) (started t values)).places) empty_after
      (after_balanced given values (total p t)))
