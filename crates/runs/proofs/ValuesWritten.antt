-- What an action writes: a compute writes the value of its function into its cell, and all other cells stay.
-- So a cell stays from one moment to another where it is not computed between them. Assumes nothing.
use Prim.Native.Nat.{ℕ, zero, suc, ◌≤◌, ◌<◌}
use mathlib.Core.Path.{◌≡◌, refl, sym, ◌∙◌, ap}
use mathlib.Core.Logic.{⊎_elim}
use mathlib.Core.List.{List, [], ◌∷◌}
use native.Mathlib.Omega.{arith}
use lib.Dec.{eqb, eqb→eq}
use lib.IntN.{ℤ, pos}
use lib.ListN.{length, length-set}
use lib.Seq.{get_or-set_same, get_or-set_other}
use Rattle.basics.proofs.TestLaws.{below_suc, eq_T, least_is, least_one}
use Rattle.grammar.specs.Table.{rules, functions, target}
use Rattle.grammar.specs.WellFormed.{WellFormed}
use Rattle.sequences.specs.Actions.{Action, compute, visit, leave, none}
use Rattle.trees.specs.Tree.{rule_of, cell}
use Rattle.trees.specs.Equations.{value_at, function_value}
use Rattle.trees.specs.Definers.{DefinedAt}
use Rattle.trees.proofs.Cells.{cell_inside, defined_occurs}
use Rattle.runs.specs.Automaton.{Machine, started, function_for, computed, act, action_of, after}
use Rattle.runs.specs.Balance.{RunGiven}
use Rattle.runs.specs.Computing.{machine_at, Computing, AboutTo}
use Rattle.runs.proofs.Steps.{step_on_law}
use Rattle.runs.proofs.Moments.{empty_stays}
use Rattle.runs.proofs.ComputedOnce.{computing_defined}

module _ (g p t : List ℕ) (values : List ℤ) where
  values_at : ℕ → List ℤ
  values_at k = (machine_at g p t values k).values

  -- what the next action does to the values
  data ValueWritten (k : ℕ) : Type 0 where
    writes : (n o : ℕ) → Computing g p t values k n o → values_at (suc k) ≡ computed g t (values_at k) n o → ValueWritten k
    keeps : values_at (suc k) ≡ values_at k → ValueWritten k

  written : (k : ℕ) → ValueWritten k
  unfolding values_at after act
  written k = go (machine_at g p t values k).stack refl
    where
      m : Machine
      m = machine_at g p t values k

      by_action : (n : ℕ) (rest : List ℕ) → m.stack ≡ n ∷ rest → (a : Action) → action_of p t m.places n ≡ a → ValueWritten k
      by_action n rest e (compute o) d =
          writes n o (record { rest = rest; stack_is = e; action_is = d }) (ap (λ (q : Machine). q.values) (step_on_law g p t m n rest (compute o) e d))
      by_action n rest e (visit i v) d = keeps (ap (λ (q : Machine). q.values) (step_on_law g p t m n rest (visit i v) e d))
      by_action n rest e (leave v) d = keeps (ap (λ (q : Machine). q.values) (step_on_law g p t m n rest (leave v) e d))
      by_action n rest e none d = keeps (ap (λ (q : Machine). q.values) (step_on_law g p t m n rest none e d))

      go : (s : List ℕ) → m.stack ≡ s → ValueWritten k
      go [] e = keeps (ap (λ (q : Machine). q.values) (empty_stays g p t m e))
      go (n ∷ rest) e = by_action n rest e (action_of p t m.places n) refl

  computed_length : (n o : ℕ) (v : List ℤ) → length (computed g t v n o) ≡ length v
  unfolding computed
  computed_length n o v = simp length-set

  -- the values keep their number
  pub values_length : (k : ℕ) → length (machine_at g p t values k).values ≡ length values
  unfolding values_at after started
  values_length zero = refl
  values_length (suc k) = go (written k) (values_length k)
    where
      go : ValueWritten k → length (values_at k) ≡ length values → length (values_at (suc k)) ≡ length values
      go (writes n o w e) h = ap (λ (v : List ℤ). length v) e ∙ (computed_length n o (values_at k) ∙ h)
      go (keeps e) h = ap (λ (v : List ℤ). length v) e ∙ h

  cell_stays : (k c : ℕ) → (AboutTo g p t values k c → ⊥) → value_at (values_at (suc k)) c ≡ value_at (values_at k) c
  unfolding computed
  cell_stays k c none' = go (written k)
    where
      go : ValueWritten k → value_at (values_at (suc k)) c ≡ value_at (values_at k) c
      go (writes n o w e) =
          ap (λ (v : List ℤ). value_at v c) e
          ∙ get_or-set_other (values_at k) (cell t n o) c _ (pos 0)
          (λ i. none' (record { node = n; occurs = o; computing = w; is_cell = sym i }))
      go (keeps e) = ap (λ (v : List ℤ). value_at v c) e

  -- a cell stays where it is not computed
  pub stays_between : (c i k : ℕ) → i ≤ k → ((j : ℕ) → i ≤ j → j < k → AboutTo g p t values j c → ⊥)
      → value_at (machine_at g p t values k).values c ≡ value_at (machine_at g p t values i).values c
  unfolding values_at
  stays_between c i zero h none' =
      let e : 0 ≡ i = omega arith in ap (λ (j : ℕ). value_at (values_at j) c) e
  stays_between c i (suc k) h none' =
      ⊎_elim
      (λ s. cell_stays k c (none' k (omega arith) (omega arith)) ∙ stays_between c i k (omega arith) (λ j a b. none' j a (omega arith)))
      (λ e. ap (λ (j : ℕ). value_at (values_at j) c) (sym e)) (below_suc i (suc k) (omega arith))

-- the function of an occurrence is the one that has it as its target
pub function_for_law : {g : List ℕ} → WellFormed g → (r f : ℕ) → r < rules g → f < functions g r
    → function_for g r (target g r f) ≡ f
unfolding function_for
function_for_law {g} table r f h s =
    least_one (functions g r) (λ k. eqb (target g r k) (target g r f)) _ f
    (least_is (functions g r) (λ k. eqb (target g r k) (target g r f)))
    (record {
      inside = omega arith;
      passes = λ q. eq_T (target g r f) (target g r f) refl;
      lowest = λ k q e. (table.function r f h s).target_once k q (eqb→eq (target g r k) (target g r f) e);
    })

module _ {g p t : List ℕ} (values : List ℤ) (given : RunGiven g p t (length values)) where
  -- a compute writes the value of its function, by the values before it
  pub compute_writes : (k n f : ℕ) → f < functions g (rule_of t n) → Computing g p t values k n (target g (rule_of t n) f)
      → value_at (machine_at g p t values (suc k)).values (cell t n (target g (rule_of t n) f))
      ≡ function_value g t (machine_at g p t values k).values n f
  unfolding after act computed
  compute_writes k n f h w =
      let o : ℕ = target g (rule_of t n) f in
      let m : Machine = machine_at g p t values k in
      let d : DefinedAt g t n o = computing_defined given values k n o w in
      let in_values : cell t n o < length m.values =
      omega (
        arith,
        cell_inside given.table given.tree n o d.inside d.applies (defined_occurs given.table given.tree n o d),
        given.tree.values_fit,
        values_length g p t values k,
      ) in
      ap (λ (q : Machine). value_at q.values (cell t n o)) (step_on_law g p t m n w.rest (compute o) w.stack_is w.action_is)
      ∙ (get_or-set_same m.values (cell t n o) _ (pos 0) in_values
      ∙ ap (λ (j : ℕ). function_value g t m.values n j)
      (function_for_law given.table (rule_of t n) f (given.tree.rule_known n d.inside d.applies) h))
