-- At the end of a run the values satisfy every equation of the tree, and whatever is no attribute of a nonterminal node is as at entry.
-- Assumes nothing.
use Prim.Native.Nat.{ℕ, suc, ◌+◌, ◌*◌, ◌<◌}
use mathlib.Core.Path.{◌≡◌, refl, sym, ◌∙◌, subst}
use mathlib.Core.Logic.{⊎_elim}
use mathlib.Core.Bool.{not}
use mathlib.Core.List.{List}
use native.Mathlib.Omega.{arith}
use lib.Dec.{T, eqb→eq}
use lib.IntN.{ℤ}
use lib.ListN.{length}
use Rattle.grammar.specs.Table.{rules, kind, functions, target, argument, arguments, position, attribute}
use Rattle.trees.specs.Tree.{nodes, rule_of, applies_rule, symbol_at_node, node_at, cell}
use Rattle.trees.specs.Equations.{value_at, Solution, SameTerminals}
use Rattle.trees.specs.Definers.{DefinedAt}
use Rattle.trees.proofs.Cells.{cell_is, attribute_eight, applies_nonterminal}
use Rattle.trees.proofs.EquationLaws.{same_function}
use Rattle.runs.specs.Automaton.{started, after}
use Rattle.runs.specs.Totals.{total}
use Rattle.runs.specs.Balance.{RunGiven}
use Rattle.runs.specs.Computing.{machine_at, Computing, AboutTo}
use Rattle.runs.proofs.ComputedOnce.{computed_once, defined_computed, no_terminal}
use Rattle.runs.proofs.AfterArguments.{after_arguments}
use Rattle.runs.proofs.ValuesWritten.{stays_between, compute_writes}
use Rattle.basics.proofs.TestLaws.{tested}

module _ {g p t : List ℕ} (values : List ℤ) (given : RunGiven g p t (length values)) where
  final : List ℤ
  final = (machine_at g p t values (total p t)).values

  -- a cell that is never computed is as at entry, at every moment
  pub never_computed : (c k : ℕ) → ((j : ℕ) → AboutTo g p t values j c → ⊥) → value_at (machine_at g p t values k).values c ≡ value_at values c
  unfolding after started
  never_computed c k none = stays_between g p t values c 0 k (omega arith) (λ j a b. none j)

  -- an argument has its last value when its function is computed
  argument_settled : (k n f j : ℕ) → k < total p t → f < functions g (rule_of t n) → Computing g p t values k n (target g (rule_of t n) f)
      → j < arguments g (rule_of t n) f
      → value_at (machine_at g p t values k).values (cell t n (argument g (rule_of t n) f j)) ≡ value_at final (cell t n (argument g (rule_of t n) f j))
  unfolding final
  argument_settled k n f j h s w q =
      let c : ℕ = cell t n (argument g (rule_of t n) f j) in
      sym (stays_between g p t values c k (total p t) (omega arith) (λ i a b v.
      ⊎_elim
      (λ term.
      no_terminal given values i (node_at t n (position (argument g (rule_of t n) f j))) (attribute (argument g (rule_of t n) f j))
      (omega arith) term (subst (λ (x : ℕ). AboutTo g p t values i x) (cell_is t n (argument g (rule_of t n) f j)) v))
      (λ before. omega (arith, before.earlier, computed_once given values i before.moment c v before.about_to))
      (after_arguments given values k n (target g (rule_of t n) f) f j w s refl q)))

  -- the values at the end satisfy every equation
  pub solved : Solution g t (machine_at g p t values (total p t)).values
  unfolding final
  solved n f h a s =
      let r : rule_of t n < rules g = given.tree.rule_known n h a in
      let o : ℕ = target g (rule_of t n) f in
      let d : DefinedAt g t n o =
      record { inside = h; applies = a; is_defining = (given.table.function (rule_of t n) f r s).target_defining } in
      let v = defined_computed given values n o d in
      let k : ℕ = v.0 in
      let kt : k < total p t = v.1 in
      let w : Computing g p t values k n o = v.2 in
      let about : AboutTo g p t values k (cell t n o) = record { node = n; occurs = o; computing = w; is_cell = refl } in
      stays_between g p t values (cell t n o) (suc k) (total p t) kt (λ j x y u. omega (arith, computed_once given values j k (cell t n o) u about))
      ∙ (compute_writes values given k n f s w
      ∙ same_function g t (machine_at g p t values k).values final n f (λ j q. argument_settled k n f j kt s w q))

  -- the terminals' values stay, at every moment
  pub terminals_stay : (k : ℕ) → SameTerminals g t (machine_at g p t values k).values values
  terminals_stay k n a h e s =
      never_computed (8 * n + a) k (λ j v.
      no_terminal given values j n a
      (attribute_eight given.table given.tree n a (record { inside = h; exists = s })) (is_terminal n h e) v)
    where
      is_terminal : (n : ℕ) → n < nodes t → kind g (symbol_at_node g t n) ≡ 1 → T (not (applies_rule t n))
      is_terminal n h e =
          ⊎_elim
          (λ q.
          let z : kind g (symbol_at_node g t n) ≡ 0 = eqb→eq _ 0 (applies_nonterminal given.table given.tree n h q) in
          absurd (omega arith))
          (λ q. q) (tested (applies_rule t n))
