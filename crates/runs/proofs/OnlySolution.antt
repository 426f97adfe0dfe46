-- Values that satisfy the tree's equations and have its terminals' values agree with what a run leaves, on every attribute of every node.
-- It goes by the order in which the run computes them. Assumes nothing.
use Prim.Native.Nat.{ℕ, zero, suc, ◌+◌, ◌*◌, ◌-◌, ◌<◌}
use mathlib.Core.Path.{◌≡◌, sym, ◌∙◌, ap, subst, subst⁻¹}
use mathlib.Core.Logic.{⊎_elim}
use mathlib.Core.Bool.{not}
use mathlib.Core.List.{List}
use native.Mathlib.Omega.{arith}
use lib.Dec.{T, T_not}
use lib.IntN.{ℤ}
use lib.ListN.{length}
use Rattle.basics.proofs.TestLaws.{tested, eq_T}
use Rattle.grammar.specs.Table.{rules, kind, nonterminal, functions, target, argument, arguments, position, attribute}
use Rattle.trees.specs.Tree.{nodes, rule_of, applies_rule, symbol_at_node, node_at, cell, terminal_mark}
use Rattle.trees.specs.Equations.{value_at, Solution, SameTerminals}
use Rattle.trees.specs.Definers.{DefinedAt, AttributeOf}
use Rattle.trees.proofs.AcceptedTree.{terminal_symbol}
use Rattle.trees.proofs.Cells.{cell_is, symbol_known, occurrence_attribute}
use Rattle.trees.proofs.EquationLaws.{same_function}
use Rattle.runs.specs.Totals.{total}
use Rattle.runs.specs.Balance.{RunGiven}
use Rattle.runs.specs.Computing.{machine_at, Computing, AboutTo}
use Rattle.runs.proofs.ComputedOnce.{computing_defined, attribute_computed}
use Rattle.runs.proofs.AfterArguments.{after_arguments}
use Rattle.runs.proofs.Solved.{solved, terminals_stay}

module _ {g p t : List ℕ} (values : List ℤ) (given : RunGiven g p t (length values)) where
  -- a node that applies no rule is a terminal
  terminal_kind : (n : ℕ) → n < nodes t → T (not (applies_rule t n)) → kind g (symbol_at_node g t n) ≡ 1
  terminal_kind n h s =
      omega (arith, (given.table.symbol _ (symbol_known given.table given.tree n h)).kind_fits, nonzero)
    where
      nonzero : kind g (symbol_at_node g t n) ≡ 0 → ⊥
      nonzero e =
          T_not (nonterminal g (rule_of t n - terminal_mark)) (given.tree.terminal_is n h s)
          (subst (λ (x : ℕ). T (nonterminal g x)) (terminal_symbol g t n s) (eq_T _ _ e))

  module _ (w : List ℤ) (solution : Solution g t w) (terminals : SameTerminals g t w values) where
    final : List ℤ
    final = (machine_at g p t values (total p t)).values

    -- at a terminal both have the values of the entry
    at_terminal : (n a : ℕ) → T (not (applies_rule t n)) → AttributeOf g t n a → value_at w (8 * n + a) ≡ value_at final (8 * n + a)
    unfolding final
    at_terminal n a s v =
        let k : kind g (symbol_at_node g t n) ≡ 1 = terminal_kind n v.inside s in
        terminals n a v.inside k v.exists ∙ sym (terminals_stay values given (total p t) n a v.inside k v.exists)

    -- at a cell that is computed both have the value of its function, by arguments that agree
    at_computed : (bound k c : ℕ) → k < bound → AboutTo g p t values k c → value_at w c ≡ value_at final c
    at_computed zero k c h v = absurd (omega arith)
    at_computed (suc bound) k c h v =
        one v.node v.occurs v.computing v.is_cell (λ i x l u. at_computed bound i x (omega arith) u)
      where
        one : (n o : ℕ) → Computing g p t values k n o → cell t n o ≡ c
            → ((i x : ℕ) → i < k → AboutTo g p t values i x → value_at w x ≡ value_at final x) → value_at w c ≡ value_at final c
        one n o u e ih =
            let d : DefinedAt g t n o = computing_defined given values k n o u in
            let r : rule_of t n < rules g = given.tree.rule_known n d.inside d.applies in
            let q = given.table.defined (rule_of t n) o r d.is_defining in
            let f : ℕ = q.0 in
            let fl : f < functions g (rule_of t n) = q.1 in
            let fo : target g (rule_of t n) f ≡ o = q.2 in
            let arg : (j : ℕ) → j < arguments g (rule_of t n) f
            → value_at w (cell t n (argument g (rule_of t n) f j)) ≡ value_at final (cell t n (argument g (rule_of t n) f j)) =
            λ j s.
            let x : ℕ = argument g (rule_of t n) f j in
            ⊎_elim
            (λ term.
            subst⁻¹ (λ (y : ℕ). value_at w y ≡ value_at final y) (cell_is t n x)
            (at_terminal (node_at t n (position x)) (attribute x) term
            (occurrence_attribute given.table given.tree n x d.inside d.applies
            ((given.table.function (rule_of t n) f r fl).argument_occurs j s))))
            (λ before. ih before.moment (cell t n x) before.earlier before.about_to)
            (after_arguments given values k n o f j u fl fo s) in
            let there : cell t n (target g (rule_of t n) f) ≡ c = ap (λ (y : ℕ). cell t n y) fo ∙ e in
            subst (λ (y : ℕ). value_at w y ≡ value_at final y) there
            (solution n f d.inside d.applies fl
            ∙ (same_function g t w final n f arg ∙ sym (unfold final in solved values given n f d.inside d.applies fl)))

    -- there is no other solution
    pub only_solution : (n a : ℕ) → AttributeOf g t n a
        → value_at w (8 * n + a) ≡ value_at (machine_at g p t values (total p t)).values (8 * n + a)
    unfolding final
    only_solution n a v =
        ⊎_elim
        (λ s. let u = attribute_computed given values n a s v in at_computed (total p t) u.0 (8 * n + a) u.1 u.2)
        (λ s. at_terminal n a s v) (tested (applies_rule t n))
