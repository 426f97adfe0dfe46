-- What a function of the rule at a node of an accepted tree reads is there: its words stand inside the table, each argument is an occurrence
-- of the rule, and the cell of an occurrence is one of the values. Assumes nothing.
use Prim.Native.Nat.{ℕ, suc, ◌+◌, ◌≤◌, ◌<◌}
use mathlib.Core.Path.{◌≡◌, refl, subst, subst⁻¹}
use mathlib.Core.Logic.{⊎_elim}
use mathlib.Core.List.{List}
use native.Mathlib.Omega.{arith}
use lib.Dec.{T, not_T, eqb→eq}
use lib.ListN.{length}
use Rattle.basics.proofs.TestLaws.{passed_over, below_or_not}
use Rattle.grammar.specs.Table.{
  rules,
  argument_words,
  is_constant,
  functions_at,
  function_at,
  rule_at,
  functions,
  function_of,
  operation,
  argument,
  arguments,
  occurrence,
}
use Rattle.grammar.specs.WellFormed.{WellFormed}
use Rattle.grammar.proofs.AcceptedTable.{occurrence_fits}
use Rattle.grammar.proofs.RuleStarts.{argument_words_law, functions_rise, rules_rise, formed_length}
use Rattle.trees.specs.Tree.{nodes, rule_of, applies_rule}
use Rattle.trees.specs.Formed.{TreeFormed}
use Rattle.trees.proofs.Cells.{cell_inside}
use Rattle.evaluating.specs.FunctionPlaces.{operation_at, Named, Valued}
use Rattle.evaluating.proofs.PlaceLaws.{words_two, words_three, words_four}

-- ---- at least so many arguments

three_words : (op : ℕ) → 7 ≤ op → 3 ≤ argument_words op
three_words op h =
    ⊎_elim (λ l. omega (arith, words_three op (omega arith))) (λ l. omega (arith, words_four op l)) (below_or_not op 8)

two_words : (op : ℕ) → 2 ≤ op → 2 ≤ argument_words op
two_words op h =
    ⊎_elim (λ l. omega (arith, words_two op h (omega arith))) (λ l. omega (arith, three_words op l)) (below_or_not op 7)

-- ---- function k of rule r

module _ {g : List ℕ} (table : WellFormed g) (r k : ℕ) (known : r < rules g) (inside : k < functions g r) where
  abbrev start : ℕ
  start = function_of g r k

  -- its words end inside the table
  function_ends : start + 2 + argument_words (operation_at g start) ≤ length g
  unfolding rule_at functions function_at
  function_ends =
      omega (arith, functions_rise g (rule_at g r) (suc k) (functions_at g (rule_at g r)) inside, rules_rise g (suc r) (rules g) known, table.ends)

  -- all words of an operation but 0 are occurrences
  arguments_all : 1 ≤ operation_at g start → arguments g r k ≡ argument_words (operation_at g start)
  unfolding arguments operation
  arguments_all h =
      passed_over (is_constant (operation_at g start)) _ _
      (not_T (is_constant (operation_at g start)) (λ u. omega (arith, eqb→eq (operation_at g start) 0 u)))

  module _ {t : List ℕ} {l : ℕ} (tree : TreeFormed g t l) (n : ℕ) (node : n < nodes t) (applies : T (applies_rule t n)) (is_rule : r ≡ rule_of t n) where
    -- argument j of the function
    argument_named : (j q : ℕ) → 1 ≤ operation_at g start → j < argument_words (operation_at g start) → start + 2 + j ≡ q → Named g q t n l
    unfolding argument
    argument_named j q h b e =
        let o = (table.function r k known inside).argument_occurs j (omega (arith, arguments_all h)) in
        subst (λ (x : ℕ). Named g x t n l) e
        (record {
          there = omega (arith, function_ends);
          node = node;
          near = omega (arith, tree.nodes_fit);
          named = occurrence_fits g r (argument g r k j) (table.rule r known) o;
          in_values =
              omega (
                arith,
                cell_inside table tree n (argument g r k j) node applies (subst (λ (x : ℕ). T (occurrence g x (argument g r k j))) is_rule o),
                tree.values_fit,
              );
        })

    start_valued : Valued g start t n l
    start_valued =
        record {
          near = omega (arith, function_ends, formed_length g table);
          ends = omega (arith, function_ends, (argument_words_law (operation_at g start)).0);
          one = λ h. argument_named 0 (start + 2) h (argument_words_law (operation_at g start)).0 (omega arith);
          two = λ h. argument_named 1 (start + 3) (omega arith) (two_words (operation_at g start) h) (omega arith);
          three = λ h. argument_named 2 (start + 4) (omega arith) (three_words (operation_at g start) h) (omega arith);
          four = λ h. argument_named 3 (start + 5) (omega arith) (omega (arith, words_four (operation_at g start) h)) (omega arith);
        }

-- the function of the rule at a node, by the word at which it starts
pub function_valued : {g t : List ℕ} {l : ℕ} → WellFormed g → TreeFormed g t l → (n k f : ℕ) → n < nodes t → T (applies_rule t n)
    → k < functions g (rule_of t n) → f ≡ function_of g (rule_of t n) k → Valued g f t n l
function_valued {g} {t} {l} table tree n k f node applies inside e =
    subst⁻¹ (λ (x : ℕ). Valued g x t n l) e
    (start_valued table (rule_of t n) k (tree.rule_known n node applies) inside tree n node applies refl)
